use Rattle.std.proofs.Common.{List, Bool, sym, subst}
use Rattle.std.specs.List.{All}
use Rattle.bt_cnf.specs.Assignments.{truth_in}
use Rattle.bt_cnf.specs.Meeting.{MeetsClause}
use Rattle.bt_theory.specs.inner.Bases.{base_in}
use Rattle.bt_theory.proofs.guessing.valued.Goals as goal

pub values_of-requires-clause-met : goal.values_of-requires-clause-met
values_of-requires-clause-met c =
    subst (λ (chosen : List Bool). All (MeetsClause (truth_in chosen)) (base_in c.args.base.now c.args.formula.now).clauses) (sym c.deref.ensures.value) c.requires.met
