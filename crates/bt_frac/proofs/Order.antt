-- The order of whole numbers, and products with a positive factor.
use Rattle.std.proofs.Common.{◌≡◌, ℕ, ◌*◌, ◌+◌, ◌<◌, ◌≤◌, arith, ℤ, pos, ◌*ℤ◌, ◌<ℤ◌, ◌≤ℤ◌}
use Rattle.std.proofs.lemmas.Int.{ints}
use Rattle.std.proofs.Math.Nat.{mul-le-mul_right, le_of_mul-le-mul_right, mul-lt-mul_of_pos_right, lt_of_mul-lt-mul_right}
use borrow.Author.Differences.{up, down}

pub mul_le : (x y : ℤ) (n : ℕ) → x ≤ℤ y → (x *ℤ pos n) ≤ℤ (y *ℤ pos n)
mul_le x y n h =
    let l : up x + down y ≤ up y + down x = omega (arith, ints) in
    omega (arith, ints, mul-le-mul_right n l)

pub le_from_mul : (x y : ℤ) (n : ℕ) → 0 < n → (x *ℤ pos n) ≤ℤ (y *ℤ pos n) → x ≤ℤ y
le_from_mul x y n some h =
    let l : (up x + down y) * n ≤ (up y + down x) * n = omega (arith, ints) in
    omega (arith, ints, le_of_mul-le-mul_right l some)

pub mul_lt : (x y : ℤ) (n : ℕ) → 0 < n → x <ℤ y → (x *ℤ pos n) <ℤ (y *ℤ pos n)
mul_lt x y n some h =
    let l : up x + down y < up y + down x = omega (arith, ints) in
    omega (arith, ints, mul-lt-mul_of_pos_right l some)

pub lt_from_mul : (x y : ℤ) (n : ℕ) → (x *ℤ pos n) <ℤ (y *ℤ pos n) → x <ℤ y
lt_from_mul x y n h =
    let l : (up x + down y) * n < (up y + down x) * n = omega (arith, ints) in
    omega (arith, ints, lt_of_mul-lt-mul_right n l)

le_antisymm : (x y : ℤ) → x ≤ℤ y → y ≤ℤ x → x ≡ y
le_antisymm x y h k = omega (arith, ints)

-- a positive factor is cancelled
pub mul_cancel : (x y : ℤ) (n : ℕ) → 0 < n → x *ℤ pos n ≡ y *ℤ pos n → x ≡ y
mul_cancel x y n some e =
    let p : (x *ℤ pos n) ≤ℤ (y *ℤ pos n) = omega (arith, ints) in
    let q : (y *ℤ pos n) ≤ℤ (x *ℤ pos n) = omega (arith, ints) in
    le_antisymm x y (le_from_mul x y n some p) (le_from_mul y x n some q)
