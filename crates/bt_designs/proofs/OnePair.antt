-- Bytes are one pair of designs, or one refusal.
use Rattle.std.proofs.Common.{ℕ, ◌+◌, ◌-◌, List, Err, length, drop, inl, inr, ap, sym, subst, ◌∙◌}
use Rattle.bt_text.specs.Answers.{HasOneAnswer, seen}
use Rattle.bt_net.specs.Network.{Network}
use Rattle.bt_designs.specs.Alone.{IsAlone}
use Rattle.bt_designs.specs.Designs.{IsBareDesign}
use Rattle.bt_designs.specs.Steps.{InTurn}
use Rattle.bt_designs.specs.TwoDesigns.{IsPaired, IsSecondNet, IsTwoNets, IsSecondFront, IsBehindFirst, IsFrontNets}
use Rattle.bt_designs.proofs.Blanks.{one_rest}
use Rattle.bt_designs.proofs.InTurns.{one_in_turn}
use Rattle.bt_designs.proofs.OneDesign.{one_bare_design}
use Rattle.bt_designs.proofs.StandingAlone.{one_alone}

one_paired : (a b : Network) → HasOneAnswer (IsPaired a b)
one_paired a b x y (inl h) (inl k) = h.1 ∙ sym k.1
one_paired a b x y (inl h) (inr k) = absurd (k.0 h.0)
one_paired a b x y (inr h) (inl k) = absurd (h.0 k.0)
one_paired a b x y (inr h) (inr k) = h.1 ∙ sym k.1

one_second : (a : Network) (text : List ℕ) → HasOneAnswer (InTurn (IsAlone IsBareDesign text) Err (IsPaired a))
one_second a text = one_in_turn (IsAlone IsBareDesign text) Err (IsPaired a) (one_alone IsBareDesign text (one_bare_design text)) (one_paired a)

one_second_net : (a : Network) (bytes : List ℕ) (used : ℕ) → HasOneAnswer (IsSecondNet a bytes used)
one_second_net a bytes used x y h k =
    one_second a k.0 x y (subst (λ text. InTurn (IsAlone IsBareDesign text) Err (IsPaired a) x) (one_rest (drop used bytes) h.0 k.0 h.1 k.1) h.2) k.2

-- two right answers to the bytes of two designs are equal
pub one_two_nets : (bytes : List ℕ) → HasOneAnswer (IsTwoNets bytes)
one_two_nets bytes = one_in_turn (IsBareDesign bytes) Err _ (one_bare_design bytes) (λ found. one_second_net found.0 bytes found.1)

one_second_front : (a : Network) (before : ℕ) (text : List ℕ) → HasOneAnswer (IsSecondFront a before text)
one_second_front a before text = one_in_turn (IsBareDesign text) Err _ (one_bare_design text)
    (λ found x y h k. h.2 ∙ ap (seen (λ (n : Network × Network). (n, before + found.1))) (one_paired a found.0 h.0 k.0 h.1 k.1) ∙ sym k.2)

one_behind_first : (a : Network) (bytes : List ℕ) (used : ℕ) → HasOneAnswer (IsBehindFirst a bytes used)
one_behind_first a bytes used x y h k =
    one_second_front a (length bytes - length k.0) k.0 x y
    (subst (λ text. IsSecondFront a (length bytes - length text) text x) (one_rest (drop used bytes) h.0 k.0 h.1 k.1) h.2) k.2

-- and to bytes with two designs at their front
pub one_front_nets : (bytes : List ℕ) → HasOneAnswer (IsFrontNets bytes)
one_front_nets bytes = one_in_turn (IsBareDesign bytes) Err _ (one_bare_design bytes) (λ found. one_behind_first found.0 bytes found.1)
