-- Two right answers of a call that makes a network are equal.
use Rattle.std.proofs.Common.{◌≡◌, ℕ, ◌≤◌, List, length, drop, refl, sym, ◌∙◌, ap, ⊎_elim, arith, length-drop}
use Rattle.std.specs.Prelude.{Result, Ok, Err}
use Rattle.bt_text.specs.Answers.{AnswersAlways, HasOneAnswer}
use Rattle.bt_text.proofs.OneAnswer.{answers_always_of}
use Rattle.bt_net.specs.declared.fault.NetFault.{NetFault}
use Rattle.bt_net.specs.declared.fault.NetFault.TheVariants.{NetLine, TooLarge, NoEnds, Memory}
use Rattle.bt_net.specs.Network.{Network, IsNetwork, IsLarge, LacksEnds, IsNetOf}

-- a network is not too large
not_large : (n : Network) → IsNetwork n → IsLarge n → ⊥
not_large n net large = ⊎_elim
    (λ h. omega (arith, net.few_inputs, h))
    (⊎_elim (λ h. omega (arith, net.few_outputs, h)) (⊎_elim (λ h. omega (arith, net.few_splitters, h)) (λ h. omega (arith, net.few_edges, h))))
    large

-- a network lacks no ends
not_without_ends : (n : Network) → IsNetwork n → LacksEnds n → ⊥
not_without_ends n net lacks = ⊎_elim (λ h. omega (arith, net.some_input, h)) (λ h. omega (arith, net.some_output, h)) lacks.1

-- one answer is right to numbers and edges
one_net_of : (n : Network) → HasOneAnswer (IsNetOf n)
one_net_of n (Ok a) (Ok b) p q = ap Ok (p.0 ∙ sym q.0)
one_net_of n (Ok a) (Err TooLarge) p q = absurd (not_large n (rw p.0 at p.1) q)
one_net_of n (Ok a) (Err NoEnds) p q = absurd (not_without_ends n (rw p.0 at p.1) q)
one_net_of n (Ok a) (Err (NetLine k)) p q = absurd q
one_net_of n (Ok a) (Err Memory) p q = absurd q
one_net_of n (Err TooLarge) (Ok b) p q = absurd (not_large n (rw q.0 at q.1) p)
one_net_of n (Err TooLarge) (Err TooLarge) p q = refl
one_net_of n (Err TooLarge) (Err NoEnds) p q = absurd (q.0 p)
one_net_of n (Err TooLarge) (Err (NetLine k)) p q = absurd q
one_net_of n (Err TooLarge) (Err Memory) p q = absurd q
one_net_of n (Err NoEnds) (Ok b) p q = absurd (not_without_ends n (rw q.0 at q.1) p)
one_net_of n (Err NoEnds) (Err TooLarge) p q = absurd (p.0 q)
one_net_of n (Err NoEnds) (Err NoEnds) p q = refl
one_net_of n (Err NoEnds) (Err (NetLine k)) p q = absurd q
one_net_of n (Err NoEnds) (Err Memory) p q = absurd q
one_net_of n (Err (NetLine k)) b p q = absurd p
one_net_of n (Err Memory) b p q = absurd p

-- what a call that makes a network owes
pub net_answers : (n : Network) (told : Result Network NetFault) → IsNetOf n told → AnswersAlways (IsNetOf n) told
net_answers n told right = answers_always_of (IsNetOf n) (one_net_of n) told right

-- texts that end alike have the same length
pub same_used : (bytes : List ℕ) (m n : ℕ) → m ≤ length bytes → n ≤ length bytes → drop m bytes ≡ drop n bytes → m ≡ n
same_used bytes m n p q e = omega (arith, ap length e, length-drop m bytes, length-drop n bytes)
