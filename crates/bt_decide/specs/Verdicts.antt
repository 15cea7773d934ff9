-- What is right to say of a network and a property that is decided within limits.
use Rattle.std.specs.Prelude.{◌≡◌, ◌+◌, ◌≤◌, ℕ, List, [], length}
use Rattle.bt_net.specs.Network.{Network}
use Rattle.bt_flow.specs.declared.property.Property.{Property}
use Rattle.bt_flow.specs.States.{AreLowest}
use Rattle.bt_flow.specs.Properties.{Holds, IsBreaking}
use Rattle.bt_flow_formula.specs.FlowFormula.{flow_formula}
use Rattle.bt_same.specs.Sameness.{AreSame, ShowsDifference}
use Rattle.bt_same.specs.Pairs.{IsTrueOfBoth}
use Rattle.bt_same.specs.SameFormula.{same_formula}
use Rattle.bt_same.specs.declared.pair.Pair.{Pair}
use Rattle.bt_cnf.specs.declared.limits.Limits.{Limits}
use Rattle.bt_cnf.specs.Formulas.{FormulaParts}
use Rattle.bt_log.specs.Logs.{LogParts}
use Rattle.bt_cert.specs.declared.defining.TheConstants.{MOST_DEFINITIONS}
use Rattle.bt_extend.specs.Extending.{extended, AreDefinitions}
use Rattle.bt_extend.specs.declared.definition.Definition.{Definition}
use Rattle.bt_theory.specs.declared.outcome.GaveUp as cause
use Rattle.bt_theory.specs.Outcomes.{IsRefutation, IsGivenUpOver}
use Rattle.bt_log.specs.Trimming.{IsTightOver}
use Rattle.bt_decide.specs.declared.verdict.Verdict.{Verdict}
use Rattle.bt_decide.specs.declared.verdict.Verdict.TheVariants.{Yes, No, GaveUp}
use Rattle.bt_decide.specs.declared.verdict.SameVerdict.{SameVerdict}
use Rattle.bt_decide.specs.declared.verdict.SameVerdict.TheVariants as of_same

-- the definitions are made for a formula of so many splitters: where there are none, nothing is defined; there are no
-- more than a certificate may have; and each may extend the formula with those before it
pub record AreMade (splitters : ℕ) (f : FormulaParts) (definitions : List Definition) : Type 0 where
  pub none : splitters ≡ 0 → definitions ≡ []
  pub few : length definitions ≤ MOST_DEFINITIONS
  pub are : AreDefinitions f definitions

-- the log, which is no longer than the limit and of which each step but the last is needed, refutes the formula as the
-- definitions, which are made for it, extend it
abbrev pub IsRefutedBy : ℕ → FormulaParts → Limits → List Definition → LogParts → Type 0
IsRefutedBy splitters f limits definitions log =
    AreMade splitters f definitions × IsRefutation (extended f definitions) log.steps × (length log.steps ≤ limits.learnt) × IsTightOver (extended f definitions) log

-- deciding the formula as the definitions, which are made for it, extend it is rightly given up
abbrev pub IsGivenUpBy : ℕ → FormulaParts → Limits → List Definition → cause.GaveUp → Type 0
IsGivenUpBy splitters f limits definitions why = AreMade splitters f definitions × IsGivenUpOver f (extended f definitions) limits why

-- how many splitters two networks have
abbrev pub splitters_of_both : Network → Network → ℕ
splitters_of_both a b = a.splitters + b.splitters

-- the pair of states, whose fractions are in lowest terms, shows a difference
abbrev pub IsDifference : Network → Network → Pair → Type 0
IsDifference a b pair = IsTrueOfBoth a b pair.first pair.second (ShowsDifference a b) × AreLowest pair.first × AreLowest pair.second

-- what is right to say: the network has the property, and the log refutes its flow formula as the definitions extend
-- it; or the state, whose fractions are in lowest terms, breaks the property; or deciding the flow formula is rightly
-- given up
abbrev pub IsVerdict : Network → Property → Limits → Verdict → Type 0
IsVerdict n p limits (Yes definitions log) = Holds n p × IsRefutedBy n.splitters (flow_formula n p) limits definitions.items log
IsVerdict n p limits (No state) = IsBreaking n p state
IsVerdict n p limits (GaveUp definitions cause) = IsGivenUpBy n.splitters (flow_formula n p) limits definitions.items cause

-- the same of two networks: they behave the same, and the log refutes their formula as the definitions extend it; or
-- the pair of states shows a difference; or deciding the formula is rightly given up
abbrev pub IsSameVerdict : Network → Network → Limits → SameVerdict → Type 0
IsSameVerdict a b limits (of_same.Yes definitions log) =
    AreSame a b × IsRefutedBy (splitters_of_both a b) (same_formula a b) limits definitions.items log
IsSameVerdict a b limits (of_same.No pair) = IsDifference a b pair
IsSameVerdict a b limits (of_same.GaveUp definitions cause) = IsGivenUpBy (splitters_of_both a b) (same_formula a b) limits definitions.items cause
