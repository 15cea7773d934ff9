-- A form reaches its number or misses it: the order of fractions is total. And the value of a column that is a form.
use Rattle.std.proofs.Common.{◌≡◌, ◌⊎◌, inl, inr, ℕ, ◌+◌, ℤ, pos, ◌+ℤ◌, ◌*ℤ◌, neg_ℤ, ◌≤ℤ◌, ◌<ℤ◌, List, [], ◌∷◌, ap, sym, ◌∙◌, refl, subst, arith}
use Rattle.std.proofs.lemmas.Int.{ints}
use Rattle.std.proofs.lemmas.Bool.{cases_lt}
use Rattle.bt_frac.specs.Ratio.{Ratio, negated}
use Rattle.bt_frac.specs.Values.{nothing, plus, times, sum_of_products, valued, RowHolds}
use Rattle.bt_frac.proofs.Ring.{neg_mul}
use Rattle.bt_extend.specs.Forms.{FormParts, turned, reached, missed}
use borrow.Author.Differences.{up, down}

-- a whole number is at most another, or above it
at_most_or : (x y : ℤ) → (x ≤ℤ y) ⊎ (y <ℤ x)
at_most_or x y =
    elim (cases_lt (up y + down x) (up x + down y)) [ inl l ↦ inr (omega (arith, ints, l)) | inr l ↦ inl (omega (arith, ints, l)) ]

neg_sum : (x y : ℤ) → neg_ℤ x +ℤ neg_ℤ y ≡ neg_ℤ (x +ℤ y)
neg_sum x y = omega (arith, ints)

neg_less : (x y : ℤ) → x <ℤ y → neg_ℤ y <ℤ neg_ℤ x
neg_less x y l = omega (arith, ints)

not_both : (x y : ℤ) → x ≤ℤ y → y <ℤ x → ⊥
not_both x y p q = omega (arith, ints)

-- the parts of a fraction
pub same_parts : (a b : Ratio) → a.over ≡ b.over → a.under ≡ b.under → a ≡ b
same_parts a b e f = ap (λ z. record { over = z; under = a.under }) e ∙ ap (λ n. record { over = b.over; under = n }) f

-- the turned terms add up to the sum turned
pub sum_turned : (values : ℕ → Ratio) (terms : List (ℕ × Ratio)) → sum_of_products (valued values (turned terms)) ≡ negated (sum_of_products (valued values terms))
sum_turned values [] = same_parts nothing (negated nothing) refl refl
sum_turned values (t ∷ terms) =
    let product = times t.1 (values t.0) in
    let rest = sum_of_products (valued values terms) in
    ap (λ r. plus (times (negated t.1) (values t.0)) r) (sum_turned values terms)
    ∙ ap (λ z. plus (record { over = z; under = product.under }) (negated rest)) (neg_mul t.1.over (values t.0).over)
    ∙ same_parts (plus (negated product) (negated rest)) (negated (plus product rest))
    (ap (λ z. z +ℤ neg_ℤ rest.over *ℤ pos product.under) (neg_mul product.over (pos rest.under))
    ∙ ap (λ z. neg_ℤ (product.over *ℤ pos rest.under) +ℤ z) (neg_mul rest.over (pos product.under))
    ∙ neg_sum (product.over *ℤ pos rest.under) (rest.over *ℤ pos product.under))
    refl

-- one of the two rows holds, and where the second does, the first doesn't
pub reaches_or_misses : (form : FormParts) (values : ℕ → Ratio)
    → RowHolds (reached form) values ⊎ (RowHolds (missed form) values × (RowHolds (reached form) values → ⊥))
reaches_or_misses form values =
    let sum = sum_of_products (valued values form.terms) in
    let bound = form.constant in
    let left : ℤ = bound.over *ℤ pos sum.under in
    let right : ℤ = sum.over *ℤ pos bound.under in
    elim (at_most_or left right) [
      | inl l ↦ inl l
      | inr l ↦ inr (
        subst (λ (s : Ratio). (neg_ℤ bound.over *ℤ pos s.under) <ℤ (s.over *ℤ pos bound.under)) (sym (sum_turned values form.terms))
            (subst (λ z. z <ℤ (neg_ℤ sum.over *ℤ pos bound.under)) (sym (neg_mul bound.over (pos sum.under)))
            (subst (λ z. neg_ℤ left <ℤ z) (sym (neg_mul sum.over (pos bound.under))) (neg_less right left l))),
        λ h. not_both left right h l,
      )
    ]
