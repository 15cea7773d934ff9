-- The order of two products, by the signs and the magnitudes of their first factors.
use Rattle.std.proofs.Common.{◌≡◌, ◌<◌, ◌*◌, ◌<ℤ◌, ◌*ℤ◌, arith, ℕ, ℤ, pos, negsuc, neg_ℤ, unsigned_abs, sym, ◌∙◌, ap, subst}
use Rattle.std.specs.declared.cmp.Ordering.{Ordering}
use Rattle.std.specs.declared.cmp.Ordering.TheVariants.{Less, Equal, Greater}
use Rattle.std.proofs.lemmas.Int.{ints}
use Rattle.bt_frac.specs.Orders.{IsOrderOf, IsOrderOfNumbers}
use Rattle.bt_frac.proofs.Order.{mul_lt}

positive_product : (x : ℤ) (m : ℕ) → (x <ℤ pos 0 → ⊥) → pos (unsigned_abs x * m) ≡ x *ℤ pos m
positive_product (pos k) m h = omega (arith, ints)
positive_product (negsuc k) m h = absurd (h (omega (arith, ints)))

negative_product : (x : ℤ) (m : ℕ) → x <ℤ pos 0 → neg_ℤ (pos (unsigned_abs x * m)) ≡ x *ℤ pos m
negative_product (pos k) m h = omega (arith, ints)
negative_product (negsuc k) m h = omega (arith, ints)

order_of_positive : (o : Ordering) (p q : ℕ) → IsOrderOfNumbers o p q → IsOrderOf o (pos p) (pos q)
order_of_positive Less p q h = omega (arith, ints)
order_of_positive Equal p q h = ap pos h
order_of_positive Greater p q h = omega (arith, ints)

order_of_negative : (o : Ordering) (p q : ℕ) → IsOrderOfNumbers o q p → IsOrderOf o (neg_ℤ (pos p)) (neg_ℤ (pos q))
order_of_negative Less p q h = omega (arith, ints)
order_of_negative Equal p q h = ap (λ n. neg_ℤ (pos n)) (sym h)
order_of_negative Greater p q h = omega (arith, ints)

module _ (o : Ordering) (x y : ℤ) (m n p q : ℕ) (p_is : p ≡ unsigned_abs x * m) (q_is : q ≡ unsigned_abs y * n) where
  -- where neither is negative, the order is that of the magnitudes
  pub both_positive : (x <ℤ pos 0 → ⊥) → (y <ℤ pos 0 → ⊥) → IsOrderOfNumbers o p q → IsOrderOf o (x *ℤ pos m) (y *ℤ pos n)
  both_positive h k order =
      subst (λ v. IsOrderOf o (x *ℤ pos m) v) (ap pos q_is ∙ positive_product y n k)
      (subst (λ u. IsOrderOf o u (pos q)) (ap pos p_is ∙ positive_product x m h) (order_of_positive o p q order))

  -- where both are negative, it is the other order
  pub both_negative : x <ℤ pos 0 → y <ℤ pos 0 → IsOrderOfNumbers o q p → IsOrderOf o (x *ℤ pos m) (y *ℤ pos n)
  both_negative h k order =
      subst (λ v. IsOrderOf o (x *ℤ pos m) v) (ap (λ j. neg_ℤ (pos j)) q_is ∙ negative_product y n k)
      (subst (λ u. IsOrderOf o u (neg_ℤ (pos q))) (ap (λ j. neg_ℤ (pos j)) p_is ∙ negative_product x m h) (order_of_negative o p q order))

-- a product of a negative number is less than one of another
pub negative_less : (x y : ℤ) (m n : ℕ) → 0 < m → x <ℤ pos 0 → (y <ℤ pos 0 → ⊥) → (x *ℤ pos m) <ℤ (y *ℤ pos n)
negative_less x y m n some h k =
    let below : (x *ℤ pos m) <ℤ pos 0 = omega (arith, ints, mul_lt x (pos 0) m some h) in
    subst (λ v. (x *ℤ pos m) <ℤ v) (positive_product y n k) (omega (arith, ints))
