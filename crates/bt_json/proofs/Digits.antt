-- The number that digits write.
use Rattle.std.proofs.Common.{◌≡◌, ℕ, zero, suc, ◌+◌, ◌-◌, ◌*◌, ◌^◌, ◌<◌, ◌≤◌, List, [], ◌∷◌, ◌++◌, length, take, drop, ap, ◌∙◌, sym, arith, All, inl, inr, ◌≢◌, ◌↔◌}
use Rattle.std.specs.Int.Digits.{number_from_digits, number_from_digits_after, AllBelowBase}
use Rattle.std.proofs.lemmas.List.Elements.{recursion_from_All, All-drop}
use Rattle.std.proofs.lemmas.Bool.{cases_lt}
use Rattle.std.proofs.lemmas.Int.Digits.{number_after_append, number_after_ge, number_lt}
use Rattle.std.proofs.lemmas.List.{take-append-drop}
use Rattle.std.proofs.lemmas.Nat.{pow-add}
use Rattle.std.proofs.Math.Nat.{mul-le-mul_left, mul-le-mul_right, mul_assoc}

-- fewer digits write no greater number
pub number_grows : (ds : List ℕ) (i : ℕ) → number_from_digits 10 (take i ds) ≤ number_from_digits 10 ds
number_grows ds i =
    let e : number_from_digits 10 ds ≡ number_from_digits_after 10 (number_from_digits 10 (take i ds)) (drop i ds) =
    ap (number_from_digits 10) (sym (take-append-drop i ds)) ∙ number_after_append 10 0 (take i ds) (drop i ds) in
    rw e (number_after_ge 10 (number_from_digits 10 (take i ds)) (drop i ds) (omega arith))

pub pow_positive : (k : ℕ) → 0 < 10 ^ k
pow_positive zero = omega arith
pow_positive (suc k) = omega (arith, pow_positive k, pow-add 10 k 1)

pub pow_grows : (j k : ℕ) → j ≤ k → 10 ^ j ≤ 10 ^ k
pow_grows j k h =
    let e : k ≡ j + (k - j) = omega arith in
    let p : 10 ^ k ≡ 10 ^ j * 10 ^ (k - j) = ap (λ n. 10 ^ n) e ∙ pow-add 10 j (k - j) in
    let q : 10 ^ j * 1 ≤ 10 ^ j * 10 ^ (k - j) = mul-le-mul_left (10 ^ j) (pow_positive (k - j)) in
    rw p (omega arith)

pub one_more_zero : (n k : ℕ) → n * 10 ^ (k + 1) ≡ n * 10 ^ k * 10
one_more_zero n k = rw (pow-add 10 k 1) (sym (mul_assoc n (10 ^ k) 10))

pub suc_is : (n : ℕ) → suc n ≡ 1 + n
suc_is n = omega arith

pub number_after_is : (n : ℕ) (ds : List ℕ) → number_from_digits_after 10 n ds ≡ n * 10 ^ length ds + number_from_digits 10 ds
number_after_is n [] = omega arith
number_after_is n (d ∷ ds) =
    let one : 10 ^ suc (length ds) ≡ 10 * 10 ^ length ds = rw (suc_is (length ds)) (pow-add 10 1 (length ds)) in
    rw (one, number_after_is (n * 10 + d) ds, number_after_is (0 * 10 + d) ds) (omega arith)

pub number_append : (xs ys : List ℕ) → number_from_digits 10 (xs ++ ys) ≡ number_from_digits 10 xs * 10 ^ length ys + number_from_digits 10 ys
number_append xs ys = number_after_append 10 0 xs ys ∙ number_after_is (number_from_digits 10 xs) ys

pub below_base : (ds : List ℕ) → All (λ d. d < 10) ds → AllBelowBase 10 ds
below_base ds h = recursion_from_All (λ d. d < 10) ds h

-- the digits in front of a place and those behind it
pub record Halves (number front back power : ℕ) : Type 0 where
  pub parts : number ≡ front * power + back
  pub below : back < power

pub halves_of : (ds : List ℕ) (i : ℕ) → All (λ d. d < 10) ds → Halves (number_from_digits 10 ds) (number_from_digits 10 (take i ds)) (number_from_digits 10 (drop i ds)) (10 ^ length (drop i ds))
halves_of ds i h = record {
  parts = ap (number_from_digits 10) (sym (take-append-drop i ds)) ∙ number_append (take i ds) (drop i ds);
  below = number_lt 10 (drop i ds) (below_base (drop i ds) (All-drop (λ d. d < 10) i ds h));
}

-- m times the power lies between these multiples of it only where it is one
pub no_multiple : (m f b p : ℕ) → m * p ≡ 2 * (f * p + b) → 0 < b → b < p → 2 * b ≢ p → ⊥
no_multiple m f b p e lo hi odd =
    elim (cases_lt m (2 * f + 1)) [
      | inl lt ↦ let h : m * p ≤ (2 * f) * p = mul-le-mul_right p (omega arith) in omega arith
      | inr ge ↦ elim (cases_lt (2 * f + 1) m) [
        | inl more ↦ let h : (2 * f + 2) * p ≤ m * p = mul-le-mul_right p (omega arith) in omega arith
        | inr no_more ↦
            let same : m ≡ 2 * f + 1 = omega arith in
            let k : m * p ≡ (2 * f + 1) * p = ap (λ n. n * p) same in
            odd (omega arith)
      ]
    ]

-- nor is it one where the power is greater than ten times those digits can be
pub no_small_multiple : (m b p q : ℕ) → m * q ≡ 2 * b → 0 < b → b < p → 10 * p ≤ q → ⊥
no_small_multiple m b p q e lo hi le =
    elim (cases_lt 0 m) [
      | inl some ↦ let h : 1 * q ≤ m * q = mul-le-mul_right q (omega arith) in omega arith
      | inr none ↦ let z : m ≡ 0 = omega arith in let k : m * q ≡ 0 * q = ap (λ n. n * q) z in omega arith
    ]

-- a digit and those behind it write half of the next power only where it is 5 before zeros
pub is_half : (d r p : ℕ) → r < p → ((d ≡ 5) × (r ≡ 0)) ↔ (2 * (d * p + r) ≡ 10 * p)
is_half d r p lt = (
  (λ h. let k : d * p ≡ 5 * p = ap (λ n. n * p) h.0 in omega arith),
  (λ e. elim (cases_lt d 5) [
    | inl less ↦ let k : d * p ≤ 4 * p = mul-le-mul_right p (omega arith) in absurd (omega arith)
    | inr ge ↦ elim (cases_lt 5 d) [
      | inl more ↦ let k : 6 * p ≤ d * p = mul-le-mul_right p (omega arith) in absurd (omega arith)
      | inr no_more ↦ let five : d ≡ 5 = omega arith in let k : d * p ≡ 5 * p = ap (λ n. n * p) five in (five, omega arith)
    ]
  ]),
)
