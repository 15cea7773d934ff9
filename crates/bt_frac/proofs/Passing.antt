-- Numerators that are passed to a function, and fractions that are seen by their views.
use Rattle.std.proofs.Common.{◌≡◌, ℕ, ◌<◌, ◌^◌, ◌<ℤ◌, arith, true, false, rules, IsTrue, ◌↔◌, refl, unsigned_abs, ℤ, pos, ◌*ℤ◌, ◌+ℤ◌, sym, ◌∙◌, ap, subst, FitsSigned, to_z, of_z}
use Rattle.std.specs.Int.{w128}
use Rattle.std.proofs.lemmas.Bool.{false≢true}
use Rattle.std.specs.declared.cmp.Ordering.{Ordering}
use Rattle.std.specs.Ordering.{int_cmp}
use Rattle.std.proofs.lemmas.Cmp.{int_ranked}
use Rattle.std.proofs.lemmas.Int.{to_z-of_z, to_z_pos, fits_signed_from_abs, unsigned_abs-mul}
use Rattle.std.proofs.lemmas.Nat.{mul-lt}
use Rattle.bt_frac.specs.Ratio.{Ratio, FitsPart}
use Rattle.bt_frac.specs.Orders.{IsOrder, IsOrderOf}

-- a number that fits is passed as it is
pub passed : (z : ℤ) → FitsPart z → to_z w128 (of_z w128 z) ≡ z
passed z h = to_z-of_z w128 z (fits_signed_from_abs w128 z h)

-- a number of two short factors fits
pub short_fits_signed : (z : ℤ) → unsigned_abs z < 2 ^ 126 → FitsSigned w128 z
short_fits_signed z h = fits_signed_from_abs w128 z (omega arith)

-- what is told of a number that fits is told of it as it is passed
pub as_passed : (P : ℤ → Type 0) (z : ℤ) → FitsPart z → P z → P (to_z w128 (of_z w128 z))
as_passed P z h p = subst P (sym (passed z h)) p

as_got : (P : ℤ → Type 0) (z : ℤ) → FitsPart z → P (to_z w128 (of_z w128 z)) → P z
as_got P z h p = subst P (passed z h) p

-- an order of products is that of the fractions
order_seen : (o : Ordering) (a b : Ratio) {a' b' : Ratio} → a ≡ a' → b ≡ b' → IsOrder o a b → IsOrder o a' b'
order_seen o a b {a'} {b'} ea eb p = subst (λ y. IsOrder o a' y) eb (subst (λ x. IsOrder o x b) ea p)

pub order_passed : (o : Ordering) (a b : Ratio) {a' b' : Ratio} → FitsPart a.over → FitsPart b.over → a ≡ a' → b ≡ b'
    → IsOrderOf o (to_z w128 (of_z w128 a.over) *ℤ pos b.under) (to_z w128 (of_z w128 b.over) *ℤ pos a.under) → IsOrder o a' b'
order_passed o a b h k ea eb p =
    order_seen o a b ea eb (as_got (λ y. IsOrderOf o (a.over *ℤ pos b.under) (y *ℤ pos a.under)) b.over k
    (as_got (λ x. IsOrderOf o (x *ℤ pos b.under) (to_z w128 (of_z w128 b.over) *ℤ pos a.under)) a.over h p))

-- an order of products that were passed too
pub short_order_passed : (o : Ordering) (a b : Ratio) {a' b' : Ratio} (x y : ℤ) → FitsPart a.over → FitsPart b.over → a ≡ a' → b ≡ b'
    → unsigned_abs x < 2 ^ 126 → unsigned_abs y < 2 ^ 126 → x ≡ to_z w128 (of_z w128 a.over) *ℤ pos b.under → y ≡ to_z w128 (of_z w128 b.over) *ℤ pos a.under
    → o ≡ int_cmp (to_z w128 (of_z w128 x)) (to_z w128 (of_z w128 y)) → IsOrder o a' b'
short_order_passed o a b x y h k ea eb p q ex ey e =
    let x_fits : FitsPart x = omega arith in
    let y_fits : FitsPart y = omega arith in
    let is : o ≡ int_cmp x y = as_got (λ v. o ≡ int_cmp x v) y y_fits (as_got (λ u. o ≡ int_cmp u (to_z w128 (of_z w128 y))) x x_fits e) in
    order_passed o a b h k ea eb
    (subst (λ v. IsOrderOf o (to_z w128 (of_z w128 a.over) *ℤ pos b.under) v) ey (subst (λ u. IsOrderOf o u y) ex (int_ranked x y o is)))

-- a magnitude and a sign that were asked for
pub size_got : (x : ℤ) (size : ℕ) → FitsSigned w128 x → size ≡ unsigned_abs (to_z w128 (of_z w128 x)) → size ≡ unsigned_abs x
size_got x size h e = e ∙ ap unsigned_abs (to_z-of_z w128 x h)

pub is_negative_got : (x : ℤ) → FitsSigned w128 x → (IsTrue true ↔ (to_z w128 (of_z w128 x) <ℤ pos 0)) → x <ℤ pos 0
is_negative_got x h e = subst (λ z. z <ℤ pos 0) (to_z-of_z w128 x h) (e.0 refl)

pub not_negative_got : (x : ℤ) → FitsSigned w128 x → (IsTrue false ↔ (to_z w128 (of_z w128 x) <ℤ pos 0)) → x <ℤ pos 0 → ⊥
not_negative_got x h e less = false≢true (e.1 (subst (λ z. z <ℤ pos 0) (sym (to_z-of_z w128 x h)) less))

-- a product of numbers that are passed is theirs
module _ (x : ℤ) (n : ℕ) (fits : FitsSigned w128 x) (x_short : unsigned_abs x < 2 ^ 63) (n_short : n < 2 ^ 63) where
  pub short_product_size : unsigned_abs (x *ℤ pos n) < 2 ^ 126
  short_product_size = rw unsigned_abs-mul (mul-lt (unsigned_abs x) n (2 ^ 63) (2 ^ 63) x_short n_short)

  short_product_fits : FitsPart (x *ℤ pos n)
  short_product_fits = let small = short_product_size in omega arith

  short_product_passed : to_z w128 (of_z w128 x) *ℤ to_z w128 n ≡ x *ℤ pos n
  short_product_passed = ap (λ t. t *ℤ to_z w128 n) (to_z-of_z w128 x fits) ∙ ap (λ t. x *ℤ t) (to_z_pos w128 n (omega arith))

  pub short_product_done : FitsSigned w128 (to_z w128 (of_z w128 x) *ℤ to_z w128 n)
  short_product_done = subst (λ z. FitsSigned w128 z) (sym short_product_passed) (fits_signed_from_abs w128 (x *ℤ pos n) short_product_fits)

  pub short_product_is : to_z w128 (of_z w128 (to_z w128 (of_z w128 x) *ℤ to_z w128 n)) ≡ x *ℤ pos n
  short_product_is = ap (λ t. to_z w128 (of_z w128 t)) short_product_passed ∙ passed (x *ℤ pos n) short_product_fits

-- the least number of 128 bits is the one whose magnitude does not fit
fits_above_least : (z : ℤ) → FitsSigned w128 z → (of_z w128 z ≡ 2 ^ 127 → ⊥) → FitsPart z
fits_above_least z h k = search rules

not_least : (z : ℤ) → FitsPart z → of_z w128 z ≡ 2 ^ 127 → ⊥
not_least z h e = search rules

pub product_passed : (x : ℤ) (n : ℕ) → FitsSigned w128 x → n < 2 ^ 127 → to_z w128 (of_z w128 x) *ℤ to_z w128 n ≡ x *ℤ pos n
product_passed x n h k = ap (λ t. t *ℤ to_z w128 n) (to_z-of_z w128 x h) ∙ ap (λ t. x *ℤ t) (to_z_pos w128 n k)

pub sum_passed : (x y : ℤ) → FitsSigned w128 x → FitsSigned w128 y → to_z w128 (of_z w128 x) +ℤ to_z w128 (of_z w128 y) ≡ x +ℤ y
sum_passed x y h k = ap (λ t. t +ℤ to_z w128 (of_z w128 y)) (to_z-of_z w128 x h) ∙ ap (λ t. x +ℤ t) (to_z-of_z w128 y k)

-- what was tried of numbers as they were passed is that of the numbers
module _ (tried value : ℤ) (same : tried ≡ value) where
  pub tried_fits : (z : ℤ) → FitsSigned w128 tried → z ≡ tried → (of_z w128 z ≡ 2 ^ 127 → ⊥) → (to_z w128 (of_z w128 z) ≡ value) × FitsPart (to_z w128 (of_z w128 z))
  tried_fits z h e above =
      let z_fits : FitsSigned w128 z = subst (λ t. FitsSigned w128 t) (sym e) h in
      let is = to_z-of_z w128 z z_fits in
      (is ∙ e ∙ same, subst FitsPart (sym is) (fits_above_least z z_fits above))

  pub tried_least : (z : ℤ) → z ≡ tried → of_z w128 z ≡ 2 ^ 127 → FitsPart value → ⊥
  tried_least z e least h = not_least z (subst FitsPart (sym (e ∙ same)) h) least

  pub tried_wide : (FitsSigned w128 tried → ⊥) → FitsPart value → ⊥
  tried_wide wide h = wide (subst (λ t. FitsSigned w128 t) (sym same) (fits_signed_from_abs w128 value h))

-- a product of two whole numbers that are passed is theirs
module _ (x y : ℤ) (x_fits : FitsSigned w128 x) (y_fits : FitsSigned w128 y) (x_short : unsigned_abs x < 2 ^ 63) (y_short : unsigned_abs y < 2 ^ 63) where
  pub whole_product_fits : FitsPart (x *ℤ y)
  whole_product_fits =
      let small : unsigned_abs (x *ℤ y) < 2 ^ 126 = rw unsigned_abs-mul (mul-lt (unsigned_abs x) (unsigned_abs y) (2 ^ 63) (2 ^ 63) x_short y_short) in
      omega arith

  whole_product_passed : to_z w128 (of_z w128 x) *ℤ to_z w128 (of_z w128 y) ≡ x *ℤ y
  whole_product_passed = ap (λ t. t *ℤ to_z w128 (of_z w128 y)) (to_z-of_z w128 x x_fits) ∙ ap (λ t. x *ℤ t) (to_z-of_z w128 y y_fits)

  pub whole_product_done : FitsSigned w128 (to_z w128 (of_z w128 x) *ℤ to_z w128 (of_z w128 y))
  whole_product_done = subst (λ z. FitsSigned w128 z) (sym whole_product_passed) (fits_signed_from_abs w128 (x *ℤ y) whole_product_fits)

  pub whole_product_is : to_z w128 (of_z w128 (to_z w128 (of_z w128 x) *ℤ to_z w128 (of_z w128 y))) ≡ x *ℤ y
  whole_product_is = ap (λ t. to_z w128 (of_z w128 t)) whole_product_passed ∙ passed (x *ℤ y) whole_product_fits
