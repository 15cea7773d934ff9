-- The quotient of fractions, as a product with 1 over the second.
use Rattle.std.proofs.Common.{◌≡◌, ◌≢◌, ℕ, ◌*◌, ◌<◌, ℤ, pos, ◌*ℤ◌, ap, sym, ◌∙◌, unsigned_abs, Bool, Option, Some, None, IfSome, IfNone}
use Rattle.std.proofs.lemmas.Nat.Gcd.{IsGcd-swap}
use Rattle.std.proofs.Math.IntN.{pos-*ℤ-pos}
use Rattle.bt_frac.specs.Ratio.{Ratio, IsLowest, parts_ratio}
use Rattle.bt_frac.specs.Products.{IsProduct, IsDivision}
use Rattle.bt_frac.specs.inner.Inverses.{IsInverse}
use Rattle.bt_frac.proofs.Order.{mul_cancel}
use Rattle.bt_frac.proofs.Quotients.{nonzero_size, parts_lowest}
use Rattle.bt_frac.proofs.Ring.{products}

-- a denominator over a numerator that isn't 0 is in lowest terms
pub inverse_lowest : (r : Ratio) (negative : Bool) → IsLowest r → r.over ≢ pos 0 → IsLowest (parts_ratio negative r.under (unsigned_abs r.over))
inverse_lowest r negative low some =
    parts_lowest negative r.under (unsigned_abs r.over) (nonzero_size r.over some) low.under_fits low.over_fits (IsGcd-swap (unsigned_abs r.over) r.under 1 low.coprime)

grouped : (x y : ℤ) (m n : ℕ) → x *ℤ pos (m * n) *ℤ y ≡ x *ℤ y *ℤ pos m *ℤ pos n
grouped x y m n = ap (λ t. x *ℤ t *ℤ y) (sym (pos-*ℤ-pos m n)) ∙ turned x y (pos m) (pos n)
  where
    turned : (x y m n : ℤ) → x *ℤ (m *ℤ n) *ℤ y ≡ x *ℤ y *ℤ m *ℤ n
    turned x y m n = simp products

-- a times 1 over b is what times b is a
divided_is : (a b i r : Ratio) → 0 < i.under → IsInverse b i → IsProduct a i r → IsDivision a b r
divided_is a b i r some inverse product =
    mul_cancel (a.over *ℤ pos (r.under * b.under)) (r.over *ℤ b.over *ℤ pos a.under) i.under some
    (sym (split a.over r.under b.under i.under) ∙ ap (λ t. a.over *ℤ pos r.under *ℤ t) (sym inverse)
    ∙ turned a.over (pos r.under) i.over b.over ∙ ap (λ t. t *ℤ b.over) (sym product) ∙ grouped r.over b.over a.under i.under)
  where
    moved : (x m n k : ℤ) → x *ℤ m *ℤ (n *ℤ k) ≡ x *ℤ (m *ℤ n) *ℤ k
    moved x m n k = simp products

    split : (x : ℤ) (m n k : ℕ) → x *ℤ pos m *ℤ pos (n * k) ≡ x *ℤ pos (m * n) *ℤ pos k
    split x m n k =
        ap (λ t. x *ℤ pos m *ℤ t) (sym (pos-*ℤ-pos n k)) ∙ moved x (pos m) (pos n) (pos k) ∙ ap (λ t. x *ℤ t *ℤ pos k) (pos-*ℤ-pos m n)

    turned : (x m i y : ℤ) → x *ℤ m *ℤ (i *ℤ y) ≡ x *ℤ i *ℤ m *ℤ y
    turned x m i y = simp products

-- and what times b is a is a times 1 over b
division_is : (a b i r : Ratio) → 0 < b.under → IsInverse b i → IsDivision a b r → IsProduct a i r
division_is a b i r some inverse division =
    mul_cancel (r.over *ℤ pos (a.under * i.under)) (a.over *ℤ i.over *ℤ pos r.under) b.under some
    (split r.over a.under i.under b.under ∙ ap (λ t. r.over *ℤ pos a.under *ℤ t) (sym inverse)
    ∙ turned r.over (pos a.under) i.over b.over ∙ ap (λ t. t *ℤ i.over) (sym division) ∙ grouped a.over i.over r.under b.under)
  where
    moved : (x m n k : ℤ) → x *ℤ (m *ℤ n) *ℤ k ≡ x *ℤ m *ℤ (k *ℤ n)
    moved x m n k = simp products

    split : (x : ℤ) (m n k : ℕ) → x *ℤ pos (m * n) *ℤ pos k ≡ x *ℤ pos m *ℤ pos (k * n)
    split x m n k =
        ap (λ t. x *ℤ t *ℤ pos k) (sym (pos-*ℤ-pos m n)) ∙ moved x (pos m) (pos n) (pos k) ∙ ap (λ t. x *ℤ pos m *ℤ t) (pos-*ℤ-pos k n)

    turned : (x m i y : ℤ) → x *ℤ m *ℤ (i *ℤ y) ≡ x *ℤ y *ℤ m *ℤ i
    turned x m i y = simp products

pub some_division : (a b i : Ratio) (o : Option Ratio) → IsLowest i → IsInverse b i → IfSome o (IsProduct a i) → IfSome o (IsDivision a b)
some_division a b i None low inverse h = tt
some_division a b i (Some r) low inverse h = divided_is a b i r low.positive inverse h

pub no_division : (a b i : Ratio) (o : Option Ratio) → IsLowest b → IsInverse b i → IfNone o ((f : Ratio) → IsLowest f → IsProduct a i f → ⊥)
    → IfNone o ((f : Ratio) → IsLowest f → IsDivision a b f → ⊥)
no_division a b i None low inverse h = λ f f_low is. h f f_low (division_is a b i f low.positive inverse is)
no_division a b i (Some r) low inverse h = tt
