use Rattle.std.proofs.Common.{◌≡◌, ◌+◌, arith, sym, subst, ap, length}
use Rattle.std.specs.Prelude.{slice_index_or}
use Rattle.bt_watch.specs.Reasons.{lit_at}
use Rattle.bt_sat.specs.inner.KnownLits.{lits_in}
use Rattle.bt_sat.proofs.Seeing.{HasSeen, seen_next, seen_not}
use Rattle.bt_sat.proofs.analysis.mark_seen.Goals.{then-place-but+in_ok-add, else-place-but}
use Rattle.bt_sat.proofs.analysis.mark_seen.Goals as goal

pub loop-n-preserved : goal.loop-n-preserved
loop-n-preserved c =
    let places = c.args.places.now in
    let clause = lits_in c.args.clause in
    let i = c.loop-n.n in
    let place = slice_index_or places c.variable.result 0 in
    let here : slice_index_or places (lit_at clause i).var 0 ≡ place = ap (λ v. slice_index_or places v 0) (sym c.variable.ensures) in
    elim c.if-place-but.branch [
      | then-place-but+in_ok-add w ↦
          subst (HasSeen places clause c.args.but c.args.agenda.now (i + 1)) (sym w.agenda-is)
          (seen_next places clause c.args.but c.args.agenda.now c.loop-n.agenda i place here c.loop-n.invariant w.add.new.self w.if-place-but.true w.in_ok-add.ensures)
      | else-place-but w ↦
          subst (HasSeen places clause c.args.but c.args.agenda.now (i + 1)) (sym w.agenda-is)
          (seen_not places clause c.args.but c.args.agenda.now c.loop-n.agenda i place here c.loop-n.invariant w.if-place-but.false)
    ]

pub returns : goal.returns
returns c =
    let same : c.loop-n.n ≡ length (lits_in c.args.clause) = omega (arith, c.loop-n-test.false, c.len-n-end.ensures) in
    subst (λ n. HasSeen c.args.places.now (lits_in c.args.clause) c.args.but c.args.agenda.now n c.loop-n.agenda) same c.loop-n.invariant
