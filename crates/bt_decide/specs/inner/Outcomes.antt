-- What deciding a flow formula comes to, told of its network and property.
use Rattle.std.specs.Prelude.{◌≡◌, ◌≤◌, ℕ, List, [], length}
use Rattle.bt_net.specs.Network.{Network, IsNetwork}
use Rattle.bt_flow.specs.declared.property.Property.{Property}
use Rattle.bt_flow_formula.specs.FlowFormula.{flow_formula}
use Rattle.bt_cnf.specs.Formulas.{FormulaParts, IsFormula}
use Rattle.bt_cert.specs.declared.defining.TheConstants.{MOST_DEFINITIONS}
use Rattle.bt_extend.specs.declared.definition.Definition.{Definition}
use Rattle.bt_same.specs.SameFormula.{same_formula}
use Rattle.bt_cnf.specs.declared.limits.Limits.{Limits}
use Rattle.bt_theory.specs.declared.outcome.Outcome.{Outcome}
use Rattle.bt_theory.specs.Outcomes.{IsOutcome}
use Rattle.bt_decide.specs.declared.verdict.Verdict.{Verdict}
use Rattle.bt_decide.specs.declared.verdict.SameVerdict.{SameVerdict}
use Rattle.bt_decide.specs.Verdicts.{AreMade, IsVerdict, IsSameVerdict, splitters_of_both}

-- definitions that a decision over so many splitters may be given: none where there are no splitters, and no more than
-- a certificate may have
pub record MayBeGiven (splitters : ℕ) (definitions : List Definition) : Type 0 where
  pub none : splitters ≡ 0 → definitions ≡ []
  pub few : length definitions ≤ MOST_DEFINITIONS

-- the verdict is right of each property whose flow formula has this outcome with these definitions, where they are made
-- for it
abbrev pub IsVerdictOf : Network → List Definition → Outcome → Verdict → Type 0
IsVerdictOf n definitions outcome verdict = (p : Property) (limits : Limits) → IsNetwork n → AreMade n.splitters (flow_formula n p) definitions
    → IsOutcome (flow_formula n p) definitions limits outcome → IsVerdict n p limits verdict

-- the same of two networks and their formula
abbrev pub IsSameVerdictOf : Network → Network → List Definition → Outcome → SameVerdict → Type 0
IsSameVerdictOf a b definitions outcome verdict = (limits : Limits) → IsNetwork a → IsNetwork b → IsFormula (same_formula a b)
    → AreMade (splitters_of_both a b) (same_formula a b) definitions → IsOutcome (same_formula a b) definitions limits outcome → IsSameVerdict a b limits verdict

-- the formula is that of two networks, and it and they are known as such
pub record IsSameFormula (a b : Network) (f : FormulaParts) : Type 0 where
  pub formula : f ≡ same_formula a b
  pub known : IsFormula f
  pub networks : IsNetwork a × IsNetwork b
