use Rattle.std.proofs.Common.{◌≡◌, ◌<◌, ◌≤◌, [], length, sym, subst, ap, ◌∙◌}
use Rattle.std.specs.Prelude.{slice_set}
use Rattle.bt_cnf.specs.Formulas.{LitsBelow}
use Rattle.bt_watch.specs.inner.VisitingClause.{VisitsClause}
use Rattle.bt_watch.specs.Keeping.{kept_at}
use Rattle.bt_arena.proofs.Overwriting.{with_list_as_long}
use Rattle.bt_cnf.proofs.Lists.{got_at}
use Rattle.bt_watch.proofs.search.visit_by_id.Goals as goal

pub visit_clause-requires-clause-two : goal.visit_clause-requires-clause-two
visit_clause-requires-clause-two c =
    let is = got_at c.args.clauses.now c.unpack-id.result [] c.slice_mut.result.now c.slice_mut.ensures.value in
    subst (λ l. 2 ≤ length l) (ap (kept_at c.args.clauses.now) (sym c.unpack-id.ensures) ∙ is) c.requires.watchable.two

pub visit_clause-requires-clause-variables : goal.visit_clause-requires-clause-variables
visit_clause-requires-clause-variables c =
    let is = got_at c.args.clauses.now c.unpack-id.result [] c.slice_mut.result.now c.slice_mut.ensures.value in
    subst (LitsBelow (length c.args.values.now)) (ap (kept_at c.args.clauses.now) (sym c.unpack-id.ensures) ∙ is) c.requires.watchable.below

pub returns : goal.returns
returns c =
    let id = c.unpack-id.result in
    let below : id < length c.args.clauses.now = subst (λ i. i < length c.args.clauses.now) (sym c.unpack-id.ensures) c.requires.id in
    let is : kept_at c.args.clauses.now id ≡ c.slice_mut.result.now = got_at c.args.clauses.now id [] c.slice_mut.result.now c.slice_mut.ensures.value in
    let same : kept_at c.args.clauses.now c.args.id ≡ c.slice_mut.result.now = ap (kept_at c.args.clauses.now) (sym c.unpack-id.ensures) ∙ is in
    record {
      clause = c.visit_clause.new.lits;
      one = with_list_as_long c.args.clauses.now id c.visit_clause.new.lits below (c.visit_clause.auto.lits ∙ ap length (sym is)) ∙ ap (λ i. slice_set c.args.clauses.now i c.visit_clause.new.lits) c.unpack-id.ensures;
      visits = subst (λ l. VisitsClause c.args.values.now c.args.false_lit.now l c.visit_clause.new.lits c.visit_clause.result) (sym same) c.visit_clause.ensures;
    }
