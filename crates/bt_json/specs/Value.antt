-- The value of a written number.
use Rattle.std.specs.Prelude.{◌≡◌, ℕ, ◌+◌, ◌*◌, ◌^◌, ◌<◌, ◌≤◌, ℤ, pos, negsuc, neg_ℤ, Bool, if◌then◌else◌}
use Rattle.std.specs.Int.Digits.{number_from_digits}
use Rattle.std.specs.Int.RustNames.{unsigned_abs}
use Rattle.bt_json.specs.Json.{Number}
use Rattle.bt_json.specs.declared.limits.TheConstants.{MOST_HALVES}

-- m is n times ten to the power of z
abbrev pub IsScaled : ℕ → ℕ → ℤ → Type 0
IsScaled m n (pos k) = m ≡ n * 10 ^ k
IsScaled m n (negsuc k) = m * 10 ^ (k + 1) ≡ n

-- the whole number with that sign
abbrev pub signed : Bool → ℕ → ℤ
signed negative m = if negative then neg_ℤ (pos m) else pos m

-- the whole number z is k times the value of the number
abbrev pub IsTimes : ℕ → Number → ℤ → Type 0
IsTimes k n z = (m : ℕ) × IsScaled m (k * number_from_digits 10 n.digits) n.exponent × (z ≡ signed n.negative m)

-- twice the number is no whole number of a magnitude that is told in halves
abbrev pub HasNoHalves : Number → Type 0
HasNoHalves n = (z : ℤ) → unsigned_abs z ≤ MOST_HALVES → IsTimes 2 n z → ⊥

-- the number is no whole number of 64 bits
abbrev pub HasNoWhole : Number → Type 0
HasNoWhole n = (m : ℕ) → m < 2 ^ 64 → IsTimes 1 n (pos m) → ⊥
