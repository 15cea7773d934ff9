-- Sums of whole numbers over the columns below an end.
use Rattle.std.proofs.Common.{◌≡◌, ◌≢◌, ℕ, ◌<◌, arith, ℤ, pos, ◌+ℤ◌, ◌*ℤ◌, ap, sym, ◌∙◌, refl, zero, suc, ◌⊎◌, inl, inr}
use Rattle.std.proofs.lemmas.Int.{ints}
use Rattle.std.proofs.Math.IntN.{zero-*ℤ, *ℤ_comm}
use Rattle.bt_frac.proofs.Ring.{mul_distrib}

-- the sum of f over the numbers below n
unfoldable pub range_sum : ℕ → (ℕ → ℤ) → ℤ
range_sum zero f = pos 0
range_sum (suc n) f = range_sum n f +ℤ f n

-- sums of what agrees below n are equal
pub range_same : (n : ℕ) (f g : ℕ → ℤ) → ((j : ℕ) → j < n → f j ≡ g j) → range_sum n f ≡ range_sum n g
unfolding range_sum
range_same zero f g same = refl
range_same (suc n) f g same =
    ap (λ x. x +ℤ f n) (range_same n f g (λ j h. same j (omega (arith, h)))) ∙ ap (λ y. range_sum n g +ℤ y) (same n (omega arith))

pub range_zero : (n : ℕ) (f : ℕ → ℤ) → ((j : ℕ) → j < n → f j ≡ pos 0) → range_sum n f ≡ pos 0
unfolding range_sum
range_zero zero f none = refl
range_zero (suc n) f none = ap (λ x. x +ℤ f n) (range_zero n f (λ j h. none j (omega (arith, h)))) ∙ ap (λ y. pos 0 +ℤ y) (none n (omega arith))

last_or : (m n : ℕ) → m < suc n → (m < n) ⊎ (m ≡ n)
last_or m n h = grind arith

-- f is k at m, where g is 0, and elsewhere they agree
module _ (f g : ℕ → ℤ) (m : ℕ) (k : ℤ) (same : (j : ℕ) → j ≢ m → f j ≡ g j) (at : f m ≡ k) (none : g m ≡ pos 0) where
  pub range_point : (n : ℕ) → m < n → range_sum n f ≡ k +ℤ range_sum n g
  unfolding range_sum
  range_point zero below = absurd (omega arith)
  range_point (suc n) below =
      elim (last_or m n below) [
        | inl less ↦
            ap (λ x. x +ℤ f n) (range_point n less) ∙ ap (λ y. k +ℤ range_sum n g +ℤ y) (same n (λ e. omega arith)) ∙ turned k (range_sum n g) (g n)
        | inr is ↦
            let here : f n ≡ k = ap f (sym is) ∙ at in
            let nothing' : g n ≡ pos 0 = ap g (sym is) ∙ none in
            let before = range_same n f g (λ j h. same j (λ e. omega arith)) in
            last_is (range_sum n f) (range_sum n g) (f n) (g n) k before here nothing'
      ]
    where
      turned : (x y z : ℤ) → x +ℤ y +ℤ z ≡ x +ℤ (y +ℤ z)
      turned x y z = omega (arith, ints)

      last_is : (x y u v k : ℤ) → x ≡ y → u ≡ k → v ≡ pos 0 → x +ℤ u ≡ k +ℤ (y +ℤ v)
      last_is x y u v k p q r = omega (arith, ints)

grouped : (w x y u s : ℤ) → w *ℤ x +ℤ y +ℤ (w *ℤ u +ℤ s) ≡ w *ℤ (x +ℤ u) +ℤ (y +ℤ s)
grouped w x y u s = let e = mul_distrib w x u in omega (arith, ints, e)

-- a sum of sums, the first times a number
pub range_linear : (n : ℕ) (w : ℤ) (f g h : ℕ → ℤ) → ((j : ℕ) → h j ≡ w *ℤ f j +ℤ g j) → range_sum n h ≡ w *ℤ range_sum n f +ℤ range_sum n g
unfolding range_sum
range_linear zero w f g h is = sym (ap (λ x. x +ℤ pos 0) (*ℤ_comm w (pos 0) ∙ zero-*ℤ w))
range_linear (suc n) w f g h is =
    ap (λ x. x +ℤ h n) (range_linear n w f g h is) ∙ ap (λ y. w *ℤ range_sum n f +ℤ range_sum n g +ℤ y) (is n)
    ∙ grouped w (range_sum n f) (range_sum n g) (f n) (g n)
