-- Comparisons of fractions as comparisons of whole numbers over one denominator.
use Rattle.std.proofs.Common.{◌≡◌, ℕ, ◌<◌, ◌+◌, ◌*◌, ℤ, pos, ◌≤ℤ◌, Bool, true, false, IsTrue, ◌↔◌, sym, subst, refl, arith, ◌⊎◌, inl, inr, Ordering, Less, Equal, Greater, ◌∙◌}
use Rattle.bt_flow.specs.Properties.{IsLesser}
use Rattle.std.proofs.lemmas.Bool.{false≢true, cases_lt}
use borrow.Author.Differences.{up, down}
use Rattle.std.proofs.lemmas.Int.{ints}
use Rattle.std.proofs.Math.IntN.{pos-*ℤ-pos}
use Rattle.bt_frac.specs.Ratio.{Ratio, IsOver, IsLess, SameRatio}
use Rattle.bt_frac.specs.Orders.{IsOrder}
use Rattle.bt_frac.proofs.Over.{over_at_most, over_less, over_same, over_whole}

module _ (a b : Ratio) (a_some : 0 < a.under) (b_some : 0 < b.under) where
  less_at_most : IsLess a b → (x y : ℤ) (d : ℕ) → 0 < d → IsOver a x d → IsOver b y d → IsTrue true ↔ (x ≤ℤ y)
  less_at_most h x y d some ea eb = (λ t. (over_at_most a b x y d some a_some b_some ea eb).0 (omega (arith, ints, h)), λ l. refl)

  same_at_most : SameRatio a b → (x y : ℤ) (d : ℕ) → 0 < d → IsOver a x d → IsOver b y d → IsTrue true ↔ (x ≤ℤ y)
  same_at_most h x y d some ea eb = (λ t. (over_at_most a b x y d some a_some b_some ea eb).0 (omega (arith, ints, h)), λ l. refl)

  pub more_at_most : IsLess b a → (x y : ℤ) (d : ℕ) → 0 < d → IsOver a x d → IsOver b y d → IsTrue false ↔ (x ≤ℤ y)
  more_at_most h x y d some ea eb =
      let l = (over_less b a y x d some b_some a_some eb ea).0 h in
      (λ t. absurd (false≢true t), λ m. absurd (omega (arith, ints, l, m)))

  pub same_same : SameRatio a b → (x y : ℤ) (d : ℕ) → 0 < d → IsOver a x d → IsOver b y d → IsTrue true ↔ (x ≡ y)
  same_same h x y d some ea eb = (λ t. (over_same a b x y d some a_some b_some ea eb).0 h, λ l. refl)

  less_same : IsLess a b → (x y : ℤ) (d : ℕ) → 0 < d → IsOver a x d → IsOver b y d → IsTrue false ↔ (x ≡ y)
  less_same h x y d some ea eb =
      let l = (over_less a b x y d some a_some b_some ea eb).0 h in
      (λ t. absurd (false≢true t), λ m. absurd (omega (arith, ints, l, m)))

  more_same : IsLess b a → (x y : ℤ) (d : ℕ) → 0 < d → IsOver a x d → IsOver b y d → IsTrue false ↔ (x ≡ y)
  more_same h x y d some ea eb =
      let l = (over_less b a y x d some b_some a_some eb ea).0 h in
      (λ t. absurd (false≢true t), λ m. absurd (omega (arith, ints, l, m)))

  pub not_more : (o : Ordering) → IsOrder o a b → (o ≡ Less) ⊎ (o ≡ Equal) → (x y : ℤ) (d : ℕ) → 0 < d → IsOver a x d → IsOver b y d → IsTrue true ↔ (x ≤ℤ y)
  not_more o h e = elim e [ inl l ↦ less_at_most (subst (λ p. IsOrder p a b) l h) | inr l ↦ same_at_most (subst (λ p. IsOrder p a b) l h) ]

  pub apart : (o : Ordering) → IsOrder o a b → (o ≡ Less) ⊎ (o ≡ Greater) → (x y : ℤ) (d : ℕ) → 0 < d → IsOver a x d → IsOver b y d → IsTrue false ↔ (x ≡ y)
  apart o h e = elim e [ inl l ↦ less_same (subst (λ p. IsOrder p a b) l h) | inr l ↦ more_same (subst (λ p. IsOrder p a b) l h) ]

-- a cap over a denominator
pub over_cap : (cap d : ℕ) → IsOver (record { over = pos cap; under = 1 }) (pos (cap * d)) d
over_cap cap d = subst (λ z. IsOver (record { over = pos cap; under = 1 }) z d) (pos-*ℤ-pos cap d) (over_whole (pos cap) d)

pub at_cap : (r : Ratio) (cap d : ℕ) → r ≡ record { over = pos cap; under = 1 } → IsOver r (pos (cap * d)) d
at_cap r cap d e = subst (λ q. IsOver q (pos (cap * d)) d) (sym e) (over_cap cap d)

pub at_none : (r : Ratio) (d : ℕ) → r ≡ record { over = pos 0; under = 1 } → IsOver r (pos 0) d
at_none r d e = let z : pos (0 * d) ≡ pos 0 = omega (arith, ints) in subst (λ w. IsOver r w d) z (at_cap r 0 d e)

-- the lesser of two of which the order is known
pub lesser_left : (z x y : ℤ) (b k : Bool) → b ≡ true → IsTrue b ↔ (x ≤ℤ y) → IsTrue k ↔ (z ≡ x) → IsTrue k ↔ IsLesser z x y
lesser_left z x y b k e h g =
    let l = h.0 e in
    (λ t. inl (g.0 t, l), λ q. elim q [ inl u ↦ g.1 u.0 | inr u ↦ let a = u.0 in let m = u.1 in let s : z ≡ x = omega (arith, ints, a, m, l) in g.1 s ])

pub lesser_right : (z x y : ℤ) (b k : Bool) → b ≡ false → IsTrue b ↔ (x ≤ℤ y) → IsTrue k ↔ (z ≡ y) → IsTrue k ↔ IsLesser z x y
lesser_right z x y b k e h g =
    (λ t. inr (g.0 t, greater x y (λ l. absurd (false≢true (sym e ∙ h.1 l)))), λ q. elim q [ inl u ↦ absurd (false≢true (sym e ∙ h.1 u.1)) | inr u ↦ g.1 u.0 ])
  where
    greater : (x y : ℤ) → (x ≤ℤ y → ⊥) → y ≤ℤ x
    greater x y f = elim (cases_lt (up y + down x) (up x + down y)) [ inl l ↦ omega (arith, ints, l) | inr l ↦ absurd (f (omega (arith, ints, l))) ]
