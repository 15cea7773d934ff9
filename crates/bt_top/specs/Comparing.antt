-- What `same` answers.
use Rattle.std.specs.Prelude.{◌≡◌, ℕ, List, Ok}
use Rattle.bt_net.specs.Network.{Network}
use Rattle.bt_cnf.specs.declared.limits.Limits.{Limits}
use Rattle.bt_decide.specs.declared.verdict.SameVerdict.{SameVerdict}
use Rattle.bt_decide.specs.declared.verdict.SameVerdict.TheVariants.{Yes, No, GaveUp}
use Rattle.bt_decide.specs.Verdicts.{IsSameVerdict}
use Rattle.bt_print.specs.declared.answer.Answer.{Answer}
use Rattle.bt_print.specs.declared.answer.Answer.TheVariants as answer
use Rattle.bt_print.specs.Replies.{Reply, design_told}
use Rattle.bt_designs.specs.Steps.{InTurn}
use Rattle.bt_designs.specs.TwoDesigns.{IsTwoNets}

-- what is answered to a verdict on two networks
abbrev pub same_told : SameVerdict → Answer
same_told (Yes definitions log) = answer.Same definitions log
same_told (No pair) = answer.Differ pair
same_told (GaveUp definitions cause) = answer.Undecided definitions cause

-- what is answered to two networks: a verdict that is right of them, within the limits
abbrev pub IsCompared : Limits → Network × Network → Reply → Type 0
IsCompared limits nets reply = (verdict : SameVerdict) × IsSameVerdict nets.0 nets.1 limits verdict × (reply ≡ Ok (same_told verdict))

-- what `same` answers to bytes: what is answered to the networks of the two designs that they are, or the first refusal
abbrev pub IsComparedFrom : Limits → List ℕ → Reply → Type 0
IsComparedFrom limits bytes = InTurn (IsTwoNets bytes) design_told (IsCompared limits)
