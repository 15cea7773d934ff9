-- The signs of a line's numbers.
use Rattle.std.proofs.Common.{◌≡◌, ℕ, zero, suc, true, [], ◌∷◌, ◌<◌, ◌^◌, arith, ℤ, pos, neg_ℤ, ◌*ℤ◌, ◌<ℤ◌, Ordering, Less, Equal, Greater, length, get_or, ap, sym, ◌∙◌, subst}
use Rattle.std.proofs.lemmas.Int.{ints}
use Rattle.std.proofs.Math.IntN.{zero-*ℤ}
use Rattle.std.specs.Ordering.{ordering_reverse}
use Rattle.bt_frac.specs.Ratio.{Ratio, negated}
use Rattle.bt_frac.proofs.Order.{mul_cancel}
use Rattle.bt_farkas.proofs.SameNumbers.{above_same}
use Rattle.bt_linear_forms.specs.Lines.{signed_terms, Terms}
use Rattle.bt_linear_forms.specs.Shorts.{Numbers, reduced, terms_over, IsSmall, IsShort}
use Rattle.bt_linear_forms.specs.TermSigns.{IsSign, IsSignedTerm}
use Rattle.bt_linear_forms.proofs.Shorts.{over_of, length_over, item_over, reduced_lowest, reduced_over, reduced_negated}

above_over : (z : ℤ) (under : ℕ) → 0 < under → under < 2 ^ 31 → IsSmall z → pos 0 <ℤ z → pos 0 <ℤ (reduced z under).over
above_over z under some fits small up =
    let low = reduced_lowest z under some (omega arith) (omega arith) in
    (above_same (over_of z under) (reduced z under) some low.positive (sym (reduced_over z under))).0 up

small_negated : (z : ℤ) → IsSmall z → IsSmall (neg_ℤ z)
small_negated z small = omega (arith, ints)

below_over : (z : ℤ) (under : ℕ) → 0 < under → under < 2 ^ 31 → IsSmall z → z <ℤ pos 0 → (reduced z under).over <ℤ pos 0
below_over z under some fits small down =
    back (reduced z under).over
    (subst (λ r. pos 0 <ℤ r.over) (reduced_negated z under some (omega arith) (omega arith)) (above_over (neg_ℤ z) under some fits (small_negated z small) (up z down)))
  where
    up : (z : ℤ) → z <ℤ pos 0 → pos 0 <ℤ neg_ℤ z
    up z h = omega (arith, ints)

    back : (z : ℤ) → pos 0 <ℤ neg_ℤ z → z <ℤ pos 0
    back z h = omega (arith, ints)

zero_over : (z : ℤ) (under : ℕ) → 0 < under → z ≡ pos 0 → (reduced z under).over ≡ pos 0
zero_over z under some none =
    mul_cancel (reduced z under).over (pos 0) under some
    (reduced_over z under ∙ ap (λ t. t *ℤ pos (reduced z under).under) none ∙ zero-*ℤ (pos (reduced z under).under) ∙ sym (zero-*ℤ (pos under)))

-- the fraction in lowest terms has the sign of its whole number
sign_over : (z : ℤ) (under : ℕ) (o : Ordering) → 0 < under → under < 2 ^ 31 → IsSmall z → IsSign o z → IsSign o (reduced z under).over
sign_over z under Less some fits small sign = below_over z under some fits small sign
sign_over z under Equal some fits small sign = zero_over z under some sign
sign_over z under Greater some fits small sign = above_over z under some fits small sign

-- the sign of a term of a short line is that of its whole number
pub short_sign : (under : ℕ) (numbers : Numbers) (now : Terms) → IsShort under numbers → terms_over under numbers ≡ now → (i : ℕ) (x : ℕ × ℤ) (o : Ordering) → i < length now → x ≡ get_or numbers i x → IsSign o x.1
    → IsSignedTerm now i (x.0, o)
short_sign under numbers now short now_is i x o within is sign =
    let many : length now ≡ length numbers = sym (ap length now_is) ∙ length_over under numbers in
    let inside : i < length numbers = subst (λ n. i < n) many within in
    let small : IsSmall x.1 = subst (λ (t : ℕ × ℤ). IsSmall t.1) (sym is) (short.small i x inside) in
    subst (λ terms. IsSignedTerm terms i (x.0, o)) now_is (reduced x.1 under, item_over under numbers i x inside is, sign_over x.1 under o short.some short.fits small sign)

-- the sign of a term of a line with the other sign
negated_item : (terms : Terms) (i : ℕ) (p : ℕ) (number : Ratio) → i < length terms → (p, number) ≡ get_or terms i (p, number) → (p, negated number) ≡ get_or (signed_terms true terms) i (p, negated number)
negated_item [] i p number inside is = absurd (omega arith)
negated_item (t ∷ terms) zero p number inside is = ap (λ (x : ℕ × Ratio). (x.0, negated x.1)) is
negated_item (t ∷ terms) (suc i) p number inside is = negated_item terms i p number (omega arith) is

negated_sign : (o : Ordering) (z : ℤ) → IsSign o z → IsSign (ordering_reverse o) (neg_ℤ z)
negated_sign Less z sign = omega (arith, ints)
negated_sign Equal z sign = omega (arith, ints)
negated_sign Greater z sign = omega (arith, ints)

pub negated_term : (terms : Terms) (i p : ℕ) (o : Ordering) → i < length terms → IsSignedTerm terms i (p, o) → IsSignedTerm (signed_terms true terms) i (p, ordering_reverse o)
negated_term terms i p o inside (number, is, sign) = (negated number, negated_item terms i p number inside is, negated_sign o number.over sign)
