use Rattle.std.proofs.Common.{List, Bool, sym, subst, ◌∙◌}
use Rattle.std.specs.List.{All}
use Rattle.bt_cnf.specs.Assignments.{truth_in}
use Rattle.bt_cnf.specs.Meeting.{MeetsClause}
use Rattle.bt_theory.specs.inner.Bases.{base_in}
use Rattle.bt_theory.proofs.Chosen.{chosen_meets}
use Rattle.bt_theory.proofs.guessing.solution_of.Goals as goal

pub choose-requires-clause-met : goal.choose-requires-clause-met
choose-requires-clause-met c =
    subst (λ (list : List Bool). All (MeetsClause (truth_in list)) (base_in c.args.base.now c.args.formula.now).clauses) (c.deref.ensures.value ∙ sym c.deref-then-meets_clauses.ensures.value)
    (c.meets_clauses.ensures c.if-meets_clauses.true)

pub valued-requires-clause-met : goal.valued-requires-clause-met
valued-requires-clause-met c = chosen_meets c.deref-then-meets_clauses.result.now c.in_ok-chosen.chosen.items (base_in c.args.base.now c.args.formula.now).clauses c.in_ok-chosen.ensures
