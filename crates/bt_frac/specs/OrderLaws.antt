-- The laws of the order that `Ord` gives.
use Rattle.std.proofs.Common.{◌≡◌, ℕ, ℤ, pos, ◌*ℤ◌, ◌*◌, ◌+◌, ◌<◌, ◌≤◌, ◌<ℤ◌, ◌≤ℤ◌, max, ap, sym, ◌∙◌, refl, arith, true, ◌==◌}
use Rattle.std.specs.declared.cmp.Ordering.{Ordering}
use Rattle.std.specs.declared.cmp.Ordering.TheVariants.{Less, Equal, Greater}
use Rattle.std.specs.Ordering.{int_cmp, int_eq, on, eq_of_both, eq_by_cmp, as_partial_cmp, is_eq}
use Rattle.std.specs.Cmp.{IsTotalOrder, Agrees, both_ways}
use Rattle.std.proofs.lemmas.Int.{ints}
use Rattle.std.proofs.lemmas.Cmp.{int_ranked, int_cmp_total, nat_cmp_total, on_total, then_total, tied_itself}
use Rattle.std.proofs.Math.Nat.{mul-le-mul_right, le_of_mul-le-mul_right, mul-lt-mul_of_pos_right, lt_of_mul-lt-mul_right}
use Rattle.bt_frac.specs.Ratio.{Ratio}
use Rattle.bt_frac.specs.Orders.{IsOrderOf}
use Rattle.bt_frac.specs.Ordered.{number_cmp, ratio_cmp}
use borrow.Author.Differences.{up, down}

-- an answer that is the order of two numbers is what `int_cmp` gives
pub answer_is : (o : Ordering) (x y : ℤ) → IsOrderOf o x y → o ≡ int_cmp x y
answer_is Less x y h = grind (arith, ints)
answer_is Equal x y h = grind (arith, ints)
answer_is Greater x y h = grind (arith, ints)

moved : (o : Ordering) (x y u v : ℤ) → (x <ℤ y → u <ℤ v) → (x ≡ y → u ≡ v) → (y <ℤ x → v <ℤ u) → IsOrderOf o x y → IsOrderOf o u v
moved Less x y u v less same greater h = less h
moved Equal x y u v less same greater h = same h
moved Greater x y u v less same greater h = greater h

-- cross products of three fractions: at most, and at most
le_le : (x y z : ℤ) (d e f : ℕ) → 0 < e → (x *ℤ pos e) ≤ℤ (y *ℤ pos d) → (y *ℤ pos f) ≤ℤ (z *ℤ pos e) → (x *ℤ pos f) ≤ℤ (z *ℤ pos d)
le_le x y z d e f some p q =
    let l : up x * e + down y * d ≤ up y * d + down x * e = omega (arith, ints) in
    let m : up y * f + down z * e ≤ up z * e + down y * f = omega (arith, ints) in
    let n : (up x * f + down z * d) * e ≤ (up z * d + down x * f) * e = omega (arith, mul-le-mul_right f l, mul-le-mul_right d m) in
    let k = le_of_mul-le-mul_right n some in
    omega (arith, ints)

lt_le : (x y z : ℤ) (d e f : ℕ) → 0 < f → (x *ℤ pos e) <ℤ (y *ℤ pos d) → (y *ℤ pos f) ≤ℤ (z *ℤ pos e) → (x *ℤ pos f) <ℤ (z *ℤ pos d)
lt_le x y z d e f some p q =
    let l : up x * e + down y * d < up y * d + down x * e = omega (arith, ints) in
    let m : up y * f + down z * e ≤ up z * e + down y * f = omega (arith, ints) in
    let n : (up x * f + down z * d) * e < (up z * d + down x * f) * e = omega (arith, mul-lt-mul_of_pos_right l some, mul-le-mul_right d m) in
    let k = lt_of_mul-lt-mul_right e n in
    omega (arith, ints)

le_lt : (x y z : ℤ) (d e f : ℕ) → 0 < d → (x *ℤ pos e) ≤ℤ (y *ℤ pos d) → (y *ℤ pos f) <ℤ (z *ℤ pos e) → (x *ℤ pos f) <ℤ (z *ℤ pos d)
le_lt x y z d e f some p q =
    let l : up x * e + down y * d ≤ up y * d + down x * e = omega (arith, ints) in
    let m : up y * f + down z * e < up z * e + down y * f = omega (arith, ints) in
    let n : (up x * f + down z * d) * e < (up z * d + down x * f) * e = omega (arith, mul-le-mul_right f l, mul-lt-mul_of_pos_right m some) in
    let k = lt_of_mul-lt-mul_right e n in
    omega (arith, ints)

at_most : (x y : ℤ) → x ≡ y → x ≤ℤ y
at_most x y e = omega (arith, ints)

less_at_most : (x y : ℤ) → x <ℤ y → x ≤ℤ y
less_at_most x y e = omega (arith, ints)

antisymmetric : (x y : ℤ) → x ≤ℤ y → y ≤ℤ x → x ≡ y
antisymmetric x y p q = omega (arith, ints)

is_less : (x y : ℤ) → int_cmp x y ≡ Less → x <ℤ y
is_less x y e = grind (arith, ints)

is_same : (x y : ℤ) → int_cmp x y ≡ Equal → x ≡ y
is_same x y e = grind (arith, ints)

some_shown : (n : ℕ) → 0 < max n 1
some_shown n = omega arith

number_trans : (x y z : ℤ) (d e f : ℕ) → 0 < d → 0 < e → 0 < f → int_cmp (x *ℤ pos e) (y *ℤ pos d) ≡ Less → int_cmp (y *ℤ pos f) (z *ℤ pos e) ≡ Less
    → int_cmp (x *ℤ pos f) (z *ℤ pos d) ≡ Less
number_trans x y z d e f pd pe pf p q =
    let second = less_at_most (y *ℤ pos f) (z *ℤ pos e) (is_less (y *ℤ pos f) (z *ℤ pos e) q) in
    sym (answer_is Less (x *ℤ pos f) (z *ℤ pos d) (lt_le x y z d e f pf (is_less (x *ℤ pos e) (y *ℤ pos d) p) second))

number_congr : (x y z : ℤ) (d e f : ℕ) → 0 < d → 0 < e → 0 < f → int_cmp (x *ℤ pos e) (y *ℤ pos d) ≡ Equal
    → int_cmp (x *ℤ pos f) (z *ℤ pos d) ≡ int_cmp (y *ℤ pos f) (z *ℤ pos e)
number_congr x y z d e f pd pe pf p =
    let same = is_same (x *ℤ pos e) (y *ℤ pos d) p in
    let forth = at_most (x *ℤ pos e) (y *ℤ pos d) same in
    let back = at_most (y *ℤ pos d) (x *ℤ pos e) (sym same) in
    let o = int_cmp (x *ℤ pos f) (z *ℤ pos d) in
    answer_is o (y *ℤ pos f) (z *ℤ pos e)
    (moved o (x *ℤ pos f) (z *ℤ pos d) (y *ℤ pos f) (z *ℤ pos e)
    (λ h. le_lt y x z e d f pe back h)
    (λ h. antisymmetric (y *ℤ pos f) (z *ℤ pos e)
    (le_le y x z e d f pd back (at_most (x *ℤ pos f) (z *ℤ pos d) h))
    (le_le z x y f d e pd (at_most (z *ℤ pos d) (x *ℤ pos f) (sym h)) forth))
    (λ h. lt_le z x y f d e pe h forth)
    (int_ranked (x *ℤ pos f) (z *ℤ pos d) o refl))

number_cmp_total : IsTotalOrder number_cmp
number_cmp_total = record {
  antisymm = λ a b. int_cmp_total.antisymm (a.over *ℤ pos (max b.under 1)) (b.over *ℤ pos (max a.under 1));
  trans = λ a b c. number_trans a.over b.over c.over (max a.under 1) (max b.under 1) (max c.under 1) (some_shown a.under) (some_shown b.under) (some_shown c.under);
  congr = λ a b c. number_congr a.over b.over c.over (max a.under 1) (max b.under 1) (max c.under 1) (some_shown a.under) (some_shown b.under) (some_shown c.under);
}

-- the order of fractions is total
pub ratio_cmp_total : IsTotalOrder ratio_cmp
ratio_cmp_total = then_total number_cmp_total (then_total (on_total (λ r. r.over) int_cmp_total) (on_total (λ r. r.under) nat_cmp_total))

-- the partial order of fractions is their order
pub ratio_cmp_partial : Agrees (as_partial_cmp ratio_cmp) ratio_cmp
ratio_cmp_partial x y = refl

same_record : (a b : Ratio) → a.over ≡ b.over → a.under ≡ b.under → a ≡ b
same_record a b e f = ap (λ z. record { over = z; under = a.under }) e ∙ ap (λ n. record { over = b.over; under = n }) f

-- two pairs are the same exactly where the order answers Equal
pub ratio_cmp_eq : (a b : Ratio) → eq_of_both (on (λ r. r.over) int_eq) (on (λ r. r.under) ◌==◌) a b ≡ eq_by_cmp ratio_cmp a b
ratio_cmp_eq a b = both_ways _ _ (forth a b) (back a b)
  where
    forth : (a b : Ratio) → eq_of_both (on (λ r. r.over) int_eq) (on (λ r. r.under) ◌==◌) a b ≡ true → eq_by_cmp ratio_cmp a b ≡ true
    forth a b e =
        let over : a.over ≡ b.over = grind (arith, ints) in
        let under : a.under ≡ b.under = grind (arith, ints) in
        ap (λ r. eq_by_cmp ratio_cmp a r) (sym (same_record a b over under)) ∙ ap is_eq (tied_itself ratio_cmp_total a)

    back : (a b : Ratio) → eq_by_cmp ratio_cmp a b ≡ true → eq_of_both (on (λ r. r.over) int_eq) (on (λ r. r.under) ◌==◌) a b ≡ true
    back a b e = grind (arith, ints)
