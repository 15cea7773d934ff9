-- Parts of which each comes above the next.
use Rattle.std.proofs.Common.{◌≡◌, ℕ, ◌+◌, ◌-◌, ◌<◌, List, length, get_or, ◌∙◌, subst, inl, inr, ⊎_elim, arith}
use Rattle.std.proofs.lemmas.Int.{ints}
use Rattle.std.proofs.lemmas.Bool.{cases_lt}
use Rattle.std.proofs.lemmas.List.{get_or_default}
use Rattle.bt_parts.specs.declared.part.Part.{Part}
use Rattle.bt_place.specs.Solutions.{ComesAbove}

above_trans : (a b c : Part) → ComesAbove a b → ComesAbove b c → ComesAbove a c
above_trans a b c (inl h) (inl k) = inl (omega (arith, ints))
above_trans a b c (inl h) (inr k) = let e = k.0 in inl (omega (arith, ints))
above_trans a b c (inr h) (inl k) = let e = h.0 in inl (omega (arith, ints))
above_trans a b c (inr h) (inr k) = let x = h.1 in let y = k.1 in inr (h.0 ∙ k.0, omega (arith, ints))

-- of the first so many parts each comes above all later ones
abbrev pub AreAbove : List Part → ℕ → Type 0
AreAbove parts n = (i j : ℕ) (d : Part) → i < j → j < n → ComesAbove (get_or parts i d) (get_or parts j d)

pub above_more : (parts : List Part) (k : ℕ) (x y : Part) → AreAbove parts k → 0 < k → k < length parts → ComesAbove (get_or parts (k - 1) x) (get_or parts k y) → AreAbove parts (k + 1)
above_more parts k x y before some within next i j d lt below =
    ⊎_elim (λ earlier. before i j d lt earlier)
    (λ last.
    let same : k ≡ j = omega arith in
    let here : ComesAbove (get_or parts (k - 1) d) (get_or parts k d) =
    subst (λ p. ComesAbove p (get_or parts k d)) (get_or_default parts (k - 1) x d (omega arith))
    (subst (λ p. ComesAbove (get_or parts (k - 1) x) p) (get_or_default parts k y d within) next) in
    subst (λ n. ComesAbove (get_or parts i d) (get_or parts n d)) same
    (⊎_elim (λ less. above_trans (get_or parts i d) (get_or parts (k - 1) d) (get_or parts k d) (before i (k - 1) d less (omega arith)) here)
    (λ most. let e : k - 1 ≡ i = omega arith in subst (λ n. ComesAbove (get_or parts n d) (get_or parts k d)) e here)
    (cases_lt i (k - 1))))
    (cases_lt j k)
