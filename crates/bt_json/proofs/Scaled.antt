-- A number times a power of ten.
use Rattle.std.proofs.Common.{◌≡◌, ℕ, zero, suc, ◌+◌, ◌*◌, ◌^◌, ◌≤◌, ℤ, pos, negsuc, ◌≤ℤ◌, refl, ◌∙◌, sym, arith, Bool, true, false}
use Rattle.std.specs.Int.RustNames.{unsigned_abs}
use Rattle.bt_json.specs.Value.{IsScaled, signed}
use Rattle.bt_json.proofs.Digits.{pow_positive}
use Rattle.std.proofs.Math.Nat.{mul-le-mul_left, le_of_mul-le-mul_right}

scaled_up : (m n : ℕ) (z : ℤ) → pos 0 ≤ℤ z → IsScaled m n z → m ≡ n * 10 ^ unsigned_abs z
scaled_up m n (pos k) h e = e
scaled_up m n (negsuc k) h e = absurd (omega arith)

pub too_great : (m n : ℕ) (z : ℤ) → pos 0 ≤ℤ z → IsScaled m (2 * n) z → 2 ^ 64 ≤ n → 2 ^ 65 ≤ m
too_great m n z h e big =
    let up = scaled_up m (2 * n) z h e in
    let one : (2 * n) * 1 ≤ (2 * n) * 10 ^ unsigned_abs z = mul-le-mul_left (2 * n) (pow_positive (unsigned_abs z)) in
    omega arith

-- one number at most is scaled so
pub scaled_same : (m k n : ℕ) (z : ℤ) → IsScaled m n z → IsScaled k n z → m ≡ k
scaled_same m k n (pos i) d e = d ∙ sym e
scaled_same m k n (negsuc i) d e =
    let same : m * 10 ^ (i + 1) ≡ k * 10 ^ (i + 1) = d ∙ sym e in
    let a : m ≤ k = le_of_mul-le-mul_right {k = 10 ^ (i + 1)} (omega arith) (pow_positive (i + 1)) in
    let b : k ≤ m = le_of_mul-le-mul_right {k = 10 ^ (i + 1)} (omega arith) (pow_positive (i + 1)) in
    omega arith

pub doubled : (m n : ℕ) (z : ℤ) → IsScaled m (1 * n) z → IsScaled (2 * m) (2 * n) z
doubled m n (pos i) e = let d : m ≡ (1 * n) * 10 ^ i = e in omega arith
doubled m n (negsuc i) e = let d : m * 10 ^ (i + 1) ≡ 1 * n = e in omega arith

pub abs-signed : (b : Bool) (m : ℕ) → unsigned_abs (signed b m) ≡ m
abs-signed true zero = refl
abs-signed true (suc m) = refl
abs-signed false m = refl

pub sign_of_zero : (n m : ℕ) → pos n ≡ signed true m → m ≡ 0
sign_of_zero n zero e = refl
sign_of_zero n (suc m) e = absurd cc
