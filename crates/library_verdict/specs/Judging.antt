-- What is right to judge of a design and a property.
use Rattle.std.specs.Prelude.{ℕ, List, Ok, Err}
use Rattle.bt_net.specs.Network.{Network}
use Rattle.bt_flow.specs.declared.property.Property.{Property}
use Rattle.bt_flow.specs.Properties.{IsBreaking}
use Rattle.bt_flow.specs.Properties as property
use Rattle.bt_extend.specs.Extending.{extended}
use Rattle.bt_flow_formula.specs.FlowFormula.{flow_formula}
use Rattle.bt_theory.specs.Outcomes.{IsRefutation}
use Rattle.bt_designs.specs.Alone.{IsLoneNet}
use Rattle.bt_designs.specs.declared.fault.DesignFault.TheVariants as fault
use Rattle.library_verdict.specs.declared.judging.Judged.{Judged}
use Rattle.library_verdict.specs.declared.judging.Judged.TheVariants.{Holds, Fails, Refused, Open}

-- of a network: where it is said to hold, every steady state has the property, and the log refutes the flow formula as
-- the definitions extend it; where it is said to fail, the state breaks the property
abbrev pub IsJudgedOf : Network → Property → Judged → Type 0
IsJudgedOf n p (Holds definitions log) =
    property.Holds n p × IsRefutation (extended (flow_formula n p) definitions.items) log.steps
IsJudgedOf n p (Fails state) = IsBreaking n p state
IsJudgedOf n p (Refused refusal) = ⊥
IsJudgedOf n p Open = Unit {0}

-- the bytes are a design alone, and this is right of its network
abbrev pub IsJudgedAlone : List ℕ → Property → Judged → Type 0
IsJudgedAlone bytes p judged = (n : Network) × IsLoneNet bytes (Ok n) × IsJudgedOf n p judged

-- of bytes: what is right of the network of the design that they are alone, or the refusal of what they are
abbrev pub IsJudged : List ℕ → Property → Judged → Type 0
IsJudged bytes p (Holds definitions log) = IsJudgedAlone bytes p (Holds definitions log)
IsJudged bytes p (Fails state) = IsJudgedAlone bytes p (Fails state)
IsJudged bytes p (Refused refusal) = IsLoneNet bytes (Err (fault.Refused refusal))
IsJudged bytes p Open = IsJudgedAlone bytes p Open
