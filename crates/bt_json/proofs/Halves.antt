-- Digits on both sides of a decimal point.
use Rattle.std.proofs.Common.{◌≡◌, ℕ, suc, ◌+◌, ◌-◌, ◌*◌, ◌^◌, ◌<◌, ◌≤◌, Bool, true, false, List, [], ◌∷◌, length, take, drop, get_or, refl, ap, ◌∙◌, arith, All, inl, inr, ◌≢◌, ◌↔◌, ◌⊎◌}
use Rattle.std.specs.Prelude.{IsTrue}
use Rattle.std.specs.Int.Digits.{number_from_digits}
use Rattle.std.proofs.lemmas.List.Elements.{All-drop}
use Rattle.std.proofs.lemmas.Int.Digits.{number_lt}
use Rattle.std.proofs.lemmas.Bool.{cases_lt}
use Rattle.std.proofs.lemmas.List.{length-drop}
use Rattle.std.proofs.lemmas.Nat.{pow-add}
use Rattle.std.proofs.Math.Nat.{le_of_mul-le-mul_right}
use Rattle.bt_json.specs.inner.Halves.{twice, IsHalfOf}
use Rattle.bt_json.proofs.Digits.{number_after_is, below_base, halves_of, is_half, no_multiple, no_small_multiple, pow_grows, suc_is}

head_is : (d : ℕ) (ds : List ℕ) → number_from_digits 10 (d ∷ ds) ≡ d * 10 ^ length ds + number_from_digits 10 ds
head_is d ds = rw (number_after_is (0 * 10 + d) ds) (omega arith)

power_is : (n : ℕ) → 10 ^ suc n ≡ 10 * 10 ^ n
power_is n = rw (suc_is n) (pow-add 10 1 n)

-- the digits behind a point write one half exactly where they are a 5 before zeros
pub half_is : (fr : List ℕ) → All (λ d. d < 10) fr → 0 < length fr → ((get_or fr 0 0 ≡ 5) × (number_from_digits 10 (drop 1 fr) ≡ 0)) ↔ (2 * number_from_digits 10 fr ≡ 10 ^ length fr)
half_is [] all lt = absurd (omega arith)
half_is (d ∷ ds) all lt =
    let small : number_from_digits 10 ds < 10 ^ length ds = number_lt 10 ds (below_base ds (All-drop (λ x. x < 10) 1 (d ∷ ds) all)) in
    rw (head_is d ds, power_is (length ds)) (is_half d (number_from_digits 10 ds) (10 ^ length ds) small)

-- the digits before a point and those behind it, of which there are as many as there are places, or all where there are
-- fewer
pub record Split (number whole fraction power : ℕ) (len places : ℕ) : Type 0 where
  pub parts : number ≡ whole * power + fraction
  pub below : fraction < power
  pub lens : ((places ≤ len) × (power ≡ 10 ^ places)) ⊎ ((len < places) × (whole ≡ 0) × (power ≡ 10 ^ len))

pub split_is : (ds : List ℕ) (places : ℕ) → All (λ d. d < 10) ds → Split (number_from_digits 10 ds) (number_from_digits 10 (take (length ds - places) ds)) (number_from_digits 10 (drop (length ds - places) ds)) (10 ^ length (drop (length ds - places) ds)) (length ds) places
split_is ds places all =
    let h = halves_of ds (length ds - places) all in
    let len : length (drop (length ds - places) ds) ≡ length ds - (length ds - places) = length-drop (length ds - places) ds in
    record {
      parts = h.parts;
      below = h.below;
      lens = elim (cases_lt (length ds) places) [
        | inl lt ↦ inr (lt, (let none : length ds - places ≡ 0 = omega arith in rw none refl), ap (λ n. 10 ^ n) (omega arith))
        | inr le ↦ inl (le, ap (λ n. 10 ^ n) (omega arith))
      ];
    }

pub no_halves : (number whole fraction power len places : ℕ) (full : Bool) → Split number whole fraction power len places → (places ≤ len → IsTrue full) → 0 < fraction → (IsTrue full → 2 * fraction ≢ power) → (m : ℕ) → m * 10 ^ places ≡ 2 * number → ⊥
no_halves number whole fraction power len places full s fills some odd m e =
    elim s.lens [
      | inl w ↦
          let same : m * power ≡ 2 * (whole * power + fraction) = ap (λ p. m * p) w.1 ∙ e ∙ ap (λ n. 2 * n) s.parts in
          no_multiple m whole fraction power same some s.below (odd (fills w.0))
      | inr w ↦
          let front : whole * power ≡ 0 * power = ap (λ n. n * power) w.1 in
          let same : m * 10 ^ places ≡ 2 * fraction = e ∙ (let p = s.parts in omega arith) in
          let more : 10 ^ (1 + len) ≤ 10 ^ places = pow_grows (1 + len) places (omega arith) in
          let ten : 10 ^ (1 + len) ≡ 10 * 10 ^ len = pow-add 10 1 len in
          let le : 10 * power ≤ 10 ^ places = rw w.2 (omega arith) in
          no_small_multiple m fraction power (10 ^ places) same some s.below le
    ]

pub halves_are : (number whole fraction power len places : ℕ) (half full : Bool) → Split number whole fraction power len places → (IsTrue full → places ≤ len) → IsHalfOf half full fraction power → twice (whole, half) * 10 ^ places ≡ 2 * number
halves_are number whole fraction power len places true full s fills h =
    elim s.lens [
      | inl w ↦ rw (← w.1) (let p = s.parts in let q = h.1 in omega arith)
      | inr w ↦ absurd (let le = fills h.0 in omega arith)
    ]
halves_are number whole fraction power len places false full s fills h =
    elim s.lens [
      | inl w ↦ rw (← w.1) (let p = s.parts in omega arith)
      | inr w ↦
          let front : whole * power ≡ 0 * power = ap (λ n. n * power) w.1 in
          let zero_whole : twice (whole, false) * 10 ^ places ≡ 0 * 10 ^ places = ap (λ n. twice (n, false) * 10 ^ places) w.1 in
          let p = s.parts in omega arith
    ]

pub too_many_halves : (number whole fraction power len places : ℕ) → Split number whole fraction power len places → 2 ^ 64 ≤ whole → (m : ℕ) → m * 10 ^ places ≡ 2 * number → 2 ^ 65 ≤ m
too_many_halves number whole fraction power len places s le m e =
    elim s.lens [
      | inl w ↦
          let same : m * power ≡ 2 * (whole * power + fraction) = ap (λ p. m * p) w.1 ∙ e ∙ ap (λ n. 2 * n) s.parts in
          let more : (2 * whole) * power ≤ m * power = omega arith in
          let h : 2 * whole ≤ m = le_of_mul-le-mul_right more (omega (arith, s.below)) in
          omega arith
      | inr w ↦ absurd (let none = w.1 in omega arith)
    ]
