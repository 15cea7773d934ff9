-- What `flow-check` answers: a design, blanks, and a written state, which blanks may follow.
use Rattle.std.specs.Prelude.{◌≡◌, ℕ, List, drop, Result, Ok, Err}
use Rattle.bt_text.specs.Blanks.{SkipsBlanks}
use Rattle.bt_net.specs.Network.{Network}
use Rattle.bt_flow.specs.declared.judgement.Judgement.{Judgement}
use Rattle.bt_flow.specs.declared.judgement.Judgement.TheVariants.{Passes, Fails}
use Rattle.bt_flow.specs.declared.judgement.WideSum.{WideSum}
use Rattle.bt_flow.specs.declared.property.Property.{Property}
use Rattle.bt_flow.specs.Judging.{IsBreakingAnswer}
use Rattle.bt_flow.specs.States.{Fractions}
use Rattle.bt_flow.specs.StateReading.{IsStateRead}
use Rattle.bt_print.specs.declared.answer.Answer.TheVariants as answer
use Rattle.bt_print.specs.declared.answer.Brief.{Brief}
use Rattle.bt_print.specs.declared.answer.Brief.TheVariants as brief
use Rattle.bt_designs.specs.Designs.{IsDesign}
use Rattle.bt_print.specs.Replies.{Reply, design_told, state_told}
use Rattle.bt_designs.specs.Steps.{InTurn}

-- the verdict on a state: this answer where it breaks the property, the first test that it fails and at which place, or
-- a sum that leaves 128 bits
abbrev pub verdict : Brief → Result Judgement WideSum → Brief
verdict broken (Ok Passes) = broken
verdict broken (Ok (Fails test place)) = brief.NotBreaking test place
verdict broken (Err wide) = brief.WideState wide.test wide.place

-- what is answered to a state of the network: the verdict on it
abbrev pub IsJudged : Network → Property → Brief → Fractions → Reply → Type 0
IsJudged n p broken t reply = (told : Result Judgement WideSum) × IsBreakingAnswer n p t told × (reply ≡ Ok (answer.Brief (verdict broken told)))

-- what is answered to a text: the first line that isn't that of a state which is written for the property, or the
-- verdict on the state
abbrev pub IsStateJudged : Network → Property → Brief → List ℕ → Reply → Type 0
IsStateJudged n p broken text = InTurn (IsStateRead n p text) state_told (IsJudged n p broken)

-- what is answered to what follows a design: behind blanks, the answer to the text of a state
abbrev pub IsStateChecked : Network → Property → List ℕ → Reply → Type 0
IsStateChecked n p rest reply = (text : List ℕ) × SkipsBlanks rest text × IsStateJudged n p (brief.Breaks p) text reply

-- what `flow-check` answers to bytes: the refusal of the design at their front, or what is answered to what follows it
abbrev pub IsFlowChecked : Property → List ℕ → Reply → Type 0
IsFlowChecked p bytes = InTurn (IsDesign bytes) design_told (λ found. IsStateChecked found.0 p (drop found.1 bytes))
