-- The laws of a ring for whole numbers, which std has for sums alone.
use Rattle.std.proofs.Common.{◌≡◌, ℕ, ◌*◌, zero, suc, arith, ℤ, pos, negsuc, ◌+ℤ◌, ◌*ℤ◌, neg_ℤ, ap, sym, ◌∙◌, refl}
use Rattle.std.proofs.lemmas.Int.{ints}
use Rattle.std.proofs.Math.IntN.{suc_ℤ-*ℤ, zero-*ℤ, *ℤ_comm, negsuc-*ℤ-pos, negsuc-*ℤ-negsuc, pos-*ℤ-pos, pos-*ℤ-negsuc, neg_ℤ-neg_ℤ}

-- a sum of sums in another order
shuffle : (a b y z : ℤ) → a +ℤ b +ℤ (y +ℤ z) ≡ a +ℤ y +ℤ (b +ℤ z)
shuffle a b y z = omega (arith, ints)

neg_shuffle : (a y : ℤ) → neg_ℤ a +ℤ neg_ℤ y ≡ neg_ℤ (a +ℤ y)
neg_shuffle a y = omega (arith, ints)

pos_distrib : (n : ℕ) (y z : ℤ) → pos n *ℤ (y +ℤ z) ≡ pos n *ℤ y +ℤ pos n *ℤ z
pos_distrib zero y z = rw (zero-*ℤ, zero-*ℤ, zero-*ℤ) refl
pos_distrib (suc n) y z =
    suc_ℤ-*ℤ (pos n) (y +ℤ z) ∙ ap (λ t. t +ℤ (y +ℤ z)) (pos_distrib n y z) ∙ shuffle (pos n *ℤ y) (pos n *ℤ z) y z
    ∙ sym (ap (λ t. t +ℤ (pos (suc n) *ℤ z)) (suc_ℤ-*ℤ (pos n) y) ∙ ap (λ t. pos n *ℤ y +ℤ y +ℤ t) (suc_ℤ-*ℤ (pos n) z))

negsuc_mul : (n : ℕ) (y : ℤ) → negsuc n *ℤ y ≡ neg_ℤ (pos (suc n) *ℤ y)
negsuc_mul n (pos m) = negsuc-*ℤ-pos n m ∙ ap neg_ℤ (sym (pos-*ℤ-pos (suc n) m))
negsuc_mul n (negsuc m) =
    negsuc-*ℤ-negsuc n m ∙ sym (ap neg_ℤ (pos-*ℤ-negsuc (suc n) m) ∙ neg_ℤ-neg_ℤ (pos (suc n * suc m)))

pub neg_mul : (x y : ℤ) → neg_ℤ x *ℤ y ≡ neg_ℤ (x *ℤ y)
neg_mul (pos zero) y = zero-*ℤ y ∙ sym (ap neg_ℤ (zero-*ℤ y))
neg_mul (pos (suc n)) y = negsuc_mul n y
neg_mul (negsuc n) y = sym (ap neg_ℤ (negsuc_mul n y) ∙ neg_ℤ-neg_ℤ (pos (suc n) *ℤ y))

pub mul_distrib : (x y z : ℤ) → x *ℤ (y +ℤ z) ≡ x *ℤ y +ℤ x *ℤ z
mul_distrib (pos n) y z = pos_distrib n y z
mul_distrib (negsuc n) y z =
    neg_mul (pos (suc n)) (y +ℤ z) ∙ ap neg_ℤ (pos_distrib (suc n) y z)
    ∙ sym (neg_shuffle (pos (suc n) *ℤ y) (pos (suc n) *ℤ z))
    ∙ sym (ap (λ t. t +ℤ negsuc n *ℤ z) (neg_mul (pos (suc n)) y) ∙ ap (λ t. neg_ℤ (pos (suc n) *ℤ y) +ℤ t) (neg_mul (pos (suc n)) z))

pos_assoc : (n : ℕ) (y z : ℤ) → pos n *ℤ y *ℤ z ≡ pos n *ℤ (y *ℤ z)
pos_assoc zero y z = rw (zero-*ℤ, zero-*ℤ, zero-*ℤ) refl
pos_assoc (suc n) y z =
    ap (λ t. t *ℤ z) (suc_ℤ-*ℤ (pos n) y) ∙ *ℤ_comm (pos n *ℤ y +ℤ y) z ∙ mul_distrib z (pos n *ℤ y) y
    ∙ ap (λ t. t +ℤ z *ℤ y) (*ℤ_comm z (pos n *ℤ y) ∙ pos_assoc n y z) ∙ ap (λ t. pos n *ℤ (y *ℤ z) +ℤ t) (*ℤ_comm z y)
    ∙ sym (suc_ℤ-*ℤ (pos n) (y *ℤ z))

pub mul_assoc : (x y z : ℤ) → x *ℤ y *ℤ z ≡ x *ℤ (y *ℤ z)
mul_assoc (pos n) y z = pos_assoc n y z
mul_assoc (negsuc n) y z =
    ap (λ t. t *ℤ z) (neg_mul (pos (suc n)) y) ∙ neg_mul (pos (suc n) *ℤ y) z ∙ ap neg_ℤ (pos_assoc (suc n) y z)
    ∙ sym (neg_mul (pos (suc n)) (y *ℤ z))

pub mul_distrib_right : (x y z : ℤ) → (x +ℤ y) *ℤ z ≡ x *ℤ z +ℤ y *ℤ z
mul_distrib_right x y z = *ℤ_comm (x +ℤ y) z ∙ mul_distrib z x y ∙ ap (λ t. t +ℤ z *ℤ y) (*ℤ_comm z x) ∙ ap (λ t. x *ℤ z +ℤ t) (*ℤ_comm z y)

pub mul_left_comm : (x y z : ℤ) → x *ℤ (y *ℤ z) ≡ y *ℤ (x *ℤ z)
mul_left_comm x y z = sym (mul_assoc x y z) ∙ ap (λ t. t *ℤ z) (*ℤ_comm x y) ∙ mul_assoc y x z

pub add_comm : (x y : ℤ) → x +ℤ y ≡ y +ℤ x
add_comm x y = omega (arith, ints)

pub add_assoc : (x y z : ℤ) → x +ℤ y +ℤ z ≡ x +ℤ (y +ℤ z)
add_assoc x y z = omega (arith, ints)

pub add_left_comm : (x y z : ℤ) → x +ℤ (y +ℤ z) ≡ y +ℤ (x +ℤ z)
add_left_comm x y z = omega (arith, ints)

pub mul_neg : (x y : ℤ) → x *ℤ neg_ℤ y ≡ neg_ℤ (x *ℤ y)
mul_neg x y = *ℤ_comm x (neg_ℤ y) ∙ neg_mul y x ∙ ap neg_ℤ (*ℤ_comm y x)

-- for `simp`: both sides of an equation between sums of products are brought to one form
pub ruleset products = (mul_distrib, mul_distrib_right, mul_assoc, *ℤ_comm, mul_left_comm)

pub ruleset sums = (add_assoc, add_comm, add_left_comm)

-- products in another order
pub turn_last : (x y z : ℤ) → x *ℤ y *ℤ z ≡ x *ℤ z *ℤ y
turn_last x y z = simp products

pub sum_of_thirds : (x y a b r d : ℤ) → (x *ℤ b +ℤ y *ℤ a) *ℤ r *ℤ d ≡ (x *ℤ b *ℤ d +ℤ y *ℤ a *ℤ d) *ℤ r
sum_of_thirds x y a b r d = simp products

pub sum_of_parts : (x y p r : ℤ) → (x *ℤ p +ℤ y *ℤ p) *ℤ r ≡ (x +ℤ y) *ℤ r *ℤ p
sum_of_parts x y p r = simp products
