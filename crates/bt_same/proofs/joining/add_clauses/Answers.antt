use Rattle.std.proofs.lemmas.Option.{slice_get_within, get_or_from_slice_get}
use Rattle.bt_same.proofs.Joined.{taken_clause}
use Rattle.bt_same.proofs.joining.add_clauses.Goals as goal

pub loop-place-preserved : goal.loop-place-preserved
loop-place-preserved c =
    let clauses = c.args.part.now.clauses in
    let clause = c.clause_at.result.now in
    taken_clause c.args.vars clauses c.args.formula.now c.loop-place.formula c.add_clause.new.self c.loop-place.place clause c.in_ok-lits.lits.items c.deref.result.now
    (slice_get_within clauses c.loop-place.place clause c.clause_at.ensures) (get_or_from_slice_get clauses c.loop-place.place clause clause c.clause_at.ensures)
    c.in_ok-lits.ensures.moved c.deref.ensures.value c.loop-place.invariant c.in_ok-add_clause.ensures.1
