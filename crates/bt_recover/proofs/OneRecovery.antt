-- Two right answers to a layout are equal.
use Rattle.std.proofs.Common.{◌≡◌, ℕ, ◌<◌, ◌≤◌, List, ◌⊎◌, inl, inr, refl, ap, sym, subst, ◌∙◌, arith}
use Rattle.std.specs.Prelude.{Result, Ok, Err}
use Rattle.std.proofs.lemmas.Bool.{cases_lt}
use Rattle.bt_text.specs.Answers.{UnlessMemory, Answers, HasOneAnswer}
use Rattle.bt_text.proofs.OneAnswer.{answers_of}
use Rattle.bt_parts.specs.declared.part.Part.{Part}
use Rattle.bt_parts.specs.Layouts.{IsUnpaired}
use Rattle.bt_net.specs.Network.{Network, IsNetwork, IsLarge, LacksEnds, HasNoPriorities}
use Rattle.bt_model.specs.Clean.{IsSideLoaded, IsBlocked, IsOnRing}
use Rattle.bt_model.specs.Shown.{Naming, IsNumbered}
use Rattle.bt_model.proofs.OneNetwork.{same_network, same_naming}
use Rattle.bt_recover.specs.declared.fault.RecoverFault.{RecoverFault}
use Rattle.bt_recover.specs.declared.fault.RecoverFault.TheVariants.{Unpaired, SideLoad, Blocked, Ring, TooLarge, NoEnds, Memory}
use Rattle.bt_model.specs.Orderly.{AllPaired, Never}
use Rattle.bt_recover.specs.Recovered.{IsFirst, IsRecovered}
use Rattle.bt_recover.specs.inner.Refused.{IsRefused, IsNetTold}

-- what is told of a layout
abbrev Told : Type 0
Told = Result (Network × Naming) RecoverFault

one_first : (P : ℕ → Type 0) (i j : ℕ) → IsFirst P i → IsFirst P j → i ≡ j
one_first P i j h k = compare (cases_lt i j) (cases_lt j i)
  where
    compare : (i < j) ⊎ (j ≤ i) → (j < i) ⊎ (i ≤ j) → i ≡ j
    compare (inl lt) other = absurd (k.1 i lt h.0)
    compare (inr le) (inl lt) = absurd (h.1 j lt k.0)
    compare (inr le) (inr more) = omega (arith, le, more)

-- the first part of a kind is told, or there is none and something later is told
FirstOr : (ℕ → Type 0) → (ℕ → RecoverFault) → (Told → Type 0) → Told → Type 0
FirstOr P tell Later told = ((i : ℕ) × IsFirst P i × (told ≡ Err (tell i))) ⊎ (Never P × Later told)

one_first_or : (P : ℕ → Type 0) (tell : ℕ → RecoverFault) (Later : Told → Type 0) → HasOneAnswer Later → HasOneAnswer (FirstOr P tell Later)
unfolding FirstOr
one_first_or P tell Later one a b (inl h) (inl k) = h.2 ∙ ap (λ i. Err (tell i)) (one_first P h.0 k.0 h.1 k.1) ∙ sym k.2
one_first_or P tell Later one a b (inl h) (inr k) = absurd (k.0 h.0 h.1.0)
one_first_or P tell Later one a b (inr h) (inl k) = absurd (h.0 k.0 k.1.0)
one_first_or P tell Later one a b (inr h) (inr k) = one a b h.1 k.1

-- what is told of a network by its size
abbrev IsSizeTold : Network → Naming → Told → Type 0
IsSizeTold net naming told =
    (IsLarge net × (told ≡ Err TooLarge)) ⊎ ((LacksEnds net × (told ≡ Err NoEnds)) ⊎ (IsNetwork net × (told ≡ Ok (net, naming))))

small : (net : Network) → IsNetwork net → IsLarge net → ⊥
small net is (inl m) = let few = is.few_inputs in omega arith
small net is (inr (inl m)) = let few = is.few_outputs in omega arith
small net is (inr (inr (inl m))) = let few = is.few_splitters in omega arith
small net is (inr (inr (inr m))) = let few = is.few_edges in omega arith

ended : (net : Network) → IsNetwork net → LacksEnds net → ⊥
ended net is (tame, inl e) = let some = is.some_input in omega arith
ended net is (tame, inr e) = let some = is.some_output in omega arith

one_size : (net : Network) (naming : Naming) → HasOneAnswer (IsSizeTold net naming)
one_size net naming a b (inl h) (inl k) = h.1 ∙ sym k.1
one_size net naming a b (inl h) (inr (inl k)) = absurd (k.0.0 h.0)
one_size net naming a b (inl h) (inr (inr k)) = absurd (small net k.0 h.0)
one_size net naming a b (inr (inl h)) (inl k) = absurd (h.0.0 k.0)
one_size net naming a b (inr (inl h)) (inr (inl k)) = h.1 ∙ sym k.1
one_size net naming a b (inr (inl h)) (inr (inr k)) = absurd (ended net k.0 h.0)
one_size net naming a b (inr (inr h)) (inl k) = absurd (small net h.0 k.0)
one_size net naming a b (inr (inr h)) (inr (inl k)) = absurd (ended net h.0 k.0)
one_size net naming a b (inr (inr h)) (inr (inr k)) = h.1 ∙ sym k.1

-- the layout has a network, of which this is told
record IsSized (parts : List Part) (told : Told) : Type 0 where
  net : Network
  naming : Naming
  numbered : IsNumbered parts net naming
  plain : HasNoPriorities net
  size : IsSizeTold net naming told

one_sized : (parts : List Part) → HasOneAnswer (IsSized parts)
one_sized parts a b h k =
    one_size h.net h.naming a b h.size
    (subst (λ n. IsSizeTold h.net n b) (same_naming parts k.net h.net k.naming h.naming k.numbered h.numbered)
    (subst (λ n. IsSizeTold n k.naming b) (same_network parts k.net h.net k.naming h.naming k.plain h.plain k.numbered h.numbered) k.size))

-- what is told, in the order of the refusals
InOrder : List Part → Told → Type 0
InOrder parts =
    FirstOr (IsUnpaired parts) Unpaired (FirstOr (IsSideLoaded parts) SideLoad
    (FirstOr (IsBlocked parts) Blocked (FirstOr (IsOnRing parts) Ring (IsSized parts))))

one_in_order : (parts : List Part) → HasOneAnswer (InOrder parts)
unfolding InOrder
one_in_order parts =
    one_first_or (IsUnpaired parts) Unpaired _ (one_first_or (IsSideLoaded parts) SideLoad _
    (one_first_or (IsBlocked parts) Blocked _ (one_first_or (IsOnRing parts) Ring _ (one_sized parts))))

never_unpaired : (parts : List Part) → AllPaired parts → Never (IsUnpaired parts)
never_unpaired parts all i alone = let paired = all i alone.piece in alone.alone paired.other paired.paired

sized_in_order : (parts : List Part) (told : Told) → IsSized parts told → InOrder parts told
unfolding InOrder FirstOr
sized_in_order parts told sized =
    let clean = sized.numbered.clean in
    inr (never_unpaired parts clean.paired, inr (clean.no_side_load, inr (clean.no_blocked, inr (clean.no_ring, sized))))

in_order : (parts : List Part) (told : Told) → IsRecovered parts told → InOrder parts told
unfolding InOrder FirstOr
in_order parts (Ok found) h =
    sized_in_order parts (Ok found) (record { net = found.0; naming = found.1; numbered = h.0; plain = h.2; size = inr (inr (h.1, refl)) })
in_order parts (Err (Unpaired i)) h = inl (i, h, refl)
in_order parts (Err (SideLoad i)) h = inr (never_unpaired parts h.0, inl (i, h.1, refl))
in_order parts (Err (Blocked i)) h = inr (never_unpaired parts h.0, inr (h.1, inl (i, h.2, refl)))
in_order parts (Err (Ring i)) h =
    inr (never_unpaired parts h.0.paired, inr (h.0.no_side_load, inr (h.0.no_blocked, inl (i, h.1, refl))))
in_order parts (Err TooLarge) h =
    sized_in_order parts (Err TooLarge) (record { net = h.0; naming = h.1; numbered = h.2; plain = h.3; size = inl (h.4, refl) })
in_order parts (Err NoEnds) h =
    sized_in_order parts (Err NoEnds) (record { net = h.0; naming = h.1; numbered = h.2; plain = h.3; size = inr (inl (h.4, refl)) })
in_order parts (Err Memory) h = absurd h

-- two right answers are equal
pub one_recovery : (parts : List Part) → HasOneAnswer (IsRecovered parts)
one_recovery parts a b h k = one_in_order parts a b (in_order parts a h) (in_order parts b k)

-- so a right answer, or want of memory, is what a call owes
pub recovery_answers : (parts : List Part) (told : Told) → UnlessMemory Memory (IsRecovered parts) told → Answers Memory (IsRecovered parts) told
recovery_answers parts told right = answers_of Memory (IsRecovered parts) (one_recovery parts) told right

-- what is told of the network that is numbered for a layout is told of the layout
pub net_found : (parts : List Part) (n net : Network) (naming : Naming) → IsNumbered parts n naming → HasNoPriorities n → IsNetTold n (Ok net) → IsRecovered parts (Ok (net, naming))
net_found parts n net naming numbered plain told = (subst (λ m. IsNumbered parts m naming) (sym told.0) numbered, told.1, subst HasNoPriorities (sym told.0) plain)

pub net_refused : (parts : List Part) (n : Network) (naming : Naming) (fault : RecoverFault) → IsNumbered parts n naming → HasNoPriorities n → IsNetTold n (Err fault) → IsRefused parts fault
net_refused parts n naming TooLarge numbered plain large = inl (n, naming, numbered, plain, large)
net_refused parts n naming NoEnds numbered plain lacks = inl (n, naming, numbered, plain, lacks)
net_refused parts n naming (Unpaired i) numbered plain none = absurd none
net_refused parts n naming (SideLoad i) numbered plain none = absurd none
net_refused parts n naming (Blocked i) numbered plain none = absurd none
net_refused parts n naming (Ring i) numbered plain none = absurd none
net_refused parts n naming Memory numbered plain none = absurd none
