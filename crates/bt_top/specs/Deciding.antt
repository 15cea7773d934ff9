-- What `decide` answers.
use Rattle.std.specs.Prelude.{◌≡◌, ℕ, List, Ok}
use Rattle.bt_net.specs.Network.{Network}
use Rattle.bt_flow.specs.declared.property.Property.{Property}
use Rattle.bt_cnf.specs.declared.limits.Limits.{Limits}
use Rattle.bt_decide.specs.declared.verdict.Verdict.{Verdict}
use Rattle.bt_decide.specs.declared.verdict.Verdict.TheVariants.{Yes, No, GaveUp}
use Rattle.bt_decide.specs.Verdicts.{IsVerdict}
use Rattle.bt_print.specs.declared.answer.Answer.{Answer}
use Rattle.bt_print.specs.declared.answer.Answer.TheVariants as answer
use Rattle.bt_designs.specs.Alone.{IsLoneNet}
use Rattle.bt_print.specs.Replies.{Reply, design_told}
use Rattle.bt_designs.specs.Steps.{InTurn}

-- what is answered to a verdict on a property
abbrev pub verdict_told : Property → Verdict → Answer
verdict_told p (Yes definitions log) = answer.Proved p definitions log
verdict_told p (No state) = answer.Broken p state
verdict_told p (GaveUp definitions cause) = answer.Undecided definitions cause

-- what is answered to a network: a verdict that is right of it and the property, within the limits
abbrev pub IsDecided : Network → Property → Limits → Reply → Type 0
IsDecided n p limits reply = (verdict : Verdict) × IsVerdict n p limits verdict × (reply ≡ Ok (verdict_told p verdict))

-- what `decide` answers to bytes: what is answered to the network of the design that they are, or the first refusal
abbrev pub IsDecidedFrom : Property → Limits → List ℕ → Reply → Type 0
IsDecidedFrom p limits bytes = InTurn (IsLoneNet bytes) design_told (λ n. IsDecided n p limits)
