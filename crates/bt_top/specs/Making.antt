-- What `make` answers.
use Rattle.std.specs.Prelude.{◌≡◌, ℕ, Bool, true, false, length, Ok}
use Rattle.bt_net.specs.Network.{Network}
use Rattle.bt_flow.specs.declared.property.Property.TheVariants.{Balanced}
use Rattle.bt_flow.specs.Properties.{Holds}
use Rattle.bt_gen.specs.declared.butterflies.TheConstants.{MOST_STAGES}
use Rattle.bt_gen.specs.declared.chains.TheConstants.{MOST_IN_CHAIN}
use Rattle.bt_gen.specs.Butterfly.{butterfly_net}
use Rattle.bt_gen.specs.Chain.{chain_net}
use Rattle.bt_gen.specs.Orders.{IsGenerated}
use Rattle.bt_cnf.specs.declared.limits.Limits.{Limits}
use Rattle.bt_decide.specs.declared.verdict.Verdict.{Verdict}
use Rattle.bt_decide.specs.declared.verdict.Verdict.TheVariants.{Yes, No, GaveUp}
use Rattle.bt_decide.specs.Verdicts.{IsVerdict}
use Rattle.bt_words.specs.declared.command.NetworkFamily.{NetworkFamily}
use Rattle.bt_words.specs.declared.command.NetworkFamily.TheVariants.{Butterfly, Chain}
use Rattle.bt_print.specs.declared.answer.Answer.{Answer}
use Rattle.bt_print.specs.declared.answer.Answer.TheVariants as answer
use Rattle.bt_print.specs.Replies.{Reply, gen_told}
use Rattle.bt_designs.specs.Steps.{InTurn}

-- what is said of a network that was made
abbrev pub made_of : NetworkFamily → ℕ → Network → Bool → Answer
made_of family order n balanced =
    answer.Made (record { family = family; order = order; edges = length n.edges; outputs = n.outputs; balanced = balanced })

-- what is answered to a verdict on the balance of a chain
abbrev pub balance_told : ℕ → Network → Verdict → Answer
balance_told order n (Yes definitions log) = made_of Chain order n true
balance_told order n (No state) = made_of Chain order n false
balance_told order n (GaveUp definitions cause) = answer.Undecided definitions cause

-- what is answered to a butterfly: that it is balanced, which each one is
abbrev pub IsSaidBalanced : ℕ → Network → Reply → Type 0
IsSaidBalanced order n reply = Holds n Balanced × (reply ≡ Ok (made_of Butterfly order n true))

-- what is answered to a chain: a verdict that is right of its balance, within the limits
abbrev pub IsBalanceDecided : ℕ → Limits → Network → Reply → Type 0
IsBalanceDecided order limits n reply = (verdict : Verdict) × IsVerdict n Balanced limits verdict × (reply ≡ Ok (balance_told order n verdict))

-- what `make` answers: what is answered to the network of this kind and order, or that the order is none
abbrev pub IsMade : NetworkFamily → ℕ → Limits → Reply → Type 0
IsMade Butterfly order limits = InTurn (IsGenerated MOST_STAGES butterfly_net order) gen_told (IsSaidBalanced order)
IsMade Chain order limits = InTurn (IsGenerated MOST_IN_CHAIN chain_net order) gen_told (IsBalanceDecided order limits)
