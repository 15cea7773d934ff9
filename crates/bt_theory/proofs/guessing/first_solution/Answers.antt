use Rattle.std.proofs.Common.{[], subst}
use Rattle.std.specs.Prelude.{IfOk, IfSome}
use Rattle.bt_cnf.specs.Formulas.{FormulaParts}
use Rattle.bt_theory.specs.Outcomes.{Solves}
use Rattle.bt_theory.proofs.Bases.{base_whole, is_base}
use Rattle.bt_theory.proofs.guessing.first_solution.Goals as goal

pub first_of-requires : goal.first_of-requires
first_of-requires c = is_base c.args.formula.now c.in_ok-base.base [] c.in_ok-base.ensures

pub returns : goal.returns
returns c =
    subst (λ (f : FormulaParts). IfOk c.first_of.result (λ found. IfSome found (Solves f))) (base_whole c.args.formula.now c.in_ok-base.base c.in_ok-base.ensures) c.first_of.ensures
