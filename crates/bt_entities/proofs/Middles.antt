-- Middles of tiles on a shifted grid.
use Rattle.std.proofs.Common.{◌≡◌, ℕ, ◌+◌, ◌/◌, ◌%◌, ◌<◌, ◌≤◌, ℤ, pos, negsuc, ◌+ℤ◌, ◌-ℤ◌, ◌*ℤ◌, Option, None, Some, arith, inl, inr, ◌⊎◌}
use Rattle.std.specs.Prelude.{unsigned_abs, MatchOption}
use Rattle.std.proofs.lemmas.Bool.{cases_lt}
use Rattle.std.proofs.lemmas.Int.{ints}
use Rattle.bt_json.specs.declared.limits.TheConstants.{MOST_HALVES}
use Rattle.bt_parts.specs.declared.part.TheConstants.{MOST_COORDINATE}
use Rattle.bt_entities.specs.Places.{IsMiddle}

abbrev IsDouble : ℤ → ℕ → Type 0
IsDouble z n = (k : ℤ) × (z ≡ (pos 2 *ℤ k) +ℤ pos n)

even_or_odd : (z : ℤ) → IsDouble z 0 ⊎ IsDouble z 1
even_or_odd (pos n) = elim (cases_lt (n % 2) 1) [
  | inl even ↦ inl (pos (n / 2), omega (arith, ints))
  | inr odd ↦ inr (pos (n / 2), omega (arith, ints))
]
even_or_odd (negsuc n) = elim (cases_lt (n % 2) 1) [
  | inl even ↦ inr (negsuc (n / 2), omega (arith, ints))
  | inr odd ↦ inl (negsuc (n / 2), omega (arith, ints))
]

-- the half of twice the first tile is the first tile
pub first_of_half : (middle : ℤ) (size shift : ℕ) (twice : ℤ) (half : Option ℤ) → twice ≡ (middle -ℤ pos size) -ℤ pos shift
    → MatchOption half ((h : ℤ) → ¬ (twice ≡ pos 2 *ℤ h)) (λ h. twice ≡ pos 2 *ℤ h)
    → MatchOption half ((first : ℤ) → ¬ IsMiddle middle size shift first) (IsMiddle middle size shift)
first_of_half middle size shift twice None e none = λ first is. none first (let m : middle ≡ (pos 2 *ℤ first) +ℤ pos (size + shift) = is in omega (arith, ints))
first_of_half middle size shift twice (Some h) e is = omega (arith, ints)

-- tiles that don't stand on the grid stand on it shifted by a half
pub shifted : (z : ℤ) (size : ℕ) → ((first : ℤ) → ¬ IsMiddle z size 0 first) → (first : ℤ) × IsMiddle z size 1 first
shifted z size none = elim (even_or_odd (z -ℤ pos size)) [
  | inl even ↦ absurd (none even.0 (omega (arith, ints, even.1)))
  | inr odd ↦ (odd.0, omega (arith, ints, odd.1))
]

pub record SameMiddle (a b : ℕ) (c d : ℤ) : Type 0 where
  pub same_shift : a ≡ b
  pub same_first : c ≡ d

pub same_middle : (z : ℤ) (size a b : ℕ) (c d : ℤ) → a < 2 → b < 2 → IsMiddle z size a c → IsMiddle z size b d → SameMiddle a b c d
same_middle z size a b c d lt lt2 h k =
    let e : z ≡ (pos 2 *ℤ c) +ℤ pos (size + a) = h in
    let f : z ≡ (pos 2 *ℤ d) +ℤ pos (size + b) = k in
    let g : (pos 2 *ℤ c) +ℤ pos a ≡ (pos 2 *ℤ d) +ℤ pos b = omega (arith, ints) in
    record { same_shift = omega (arith, ints); same_first = omega (arith, ints) }

pub middle_near : (z : ℤ) (size a : ℕ) (c : ℤ) → size ≤ 2 → a < 2 → unsigned_abs z ≤ MOST_HALVES → IsMiddle z size a c → unsigned_abs c ≤ MOST_COORDINATE
middle_near z size a c few small near h =
    let e : z ≡ (pos 2 *ℤ c) +ℤ pos (size + a) = h in
    omega (arith, ints)
