use Rattle.std.proofs.Common.{length, pos}
use Rattle.std.specs.List.{flat_map}
use Rattle.bt_flow.specs.States.{backed_at}
use Rattle.bt_flow_formula.specs.Families.{family_clauses, families}
use Rattle.bt_flow_formula.specs.FlowFormula.{variable_of}
use Rattle.bt_flow_formula.specs.Laws.{values_of}
use Rattle.bt_flow_formula.proofs.TrueClaims.{true_claims_meet}
use Rattle.bt_flow_formula.proofs.Named.{families_named}
use Rattle.bt_flow_formula.proofs.Admitted.{families_true}
use Rattle.bt_flow_formula.proofs.law.steady_meets.Goals as goal

pub returns : goal.returns
returns c = λ n is s state admits steady.
    true_claims_meet (variable_of n) (length n.edges) (flat_map (family_clauses n) families) (backed_at s) (values_of s) (families_named n is) (families_true n is s state (pos 0) steady admits)
