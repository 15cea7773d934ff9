-- Whole numbers as texts spell them.
use Rattle.std.specs.Prelude.{◌≡◌, ℕ, ◌-◌, ◌^◌, ◌<◌, List, length, slice_index, min}
use Rattle.std.specs.Str.Parse.{AllDigits, digits_value}

-- the word is decimal digits without a leading zero, but for `0` itself, and this is its value
pub record Spells (word : List ℕ) (n : ℕ) : Type 0 where
  pub some_digit : 0 < length word
  pub digits : AllDigits 10 word
  pub no_zero : slice_index word 0 ≡ 48 → length word ≡ 1
  pub value : digits_value 10 word ≡ n

-- a number as it is read: those past `u128::MAX` are read as that
abbrev pub IsLimited : ℕ → ℕ → Type 0
IsLimited n v = v ≡ min n (2 ^ 128 - 1)

-- the word spells a number, which is read as this
abbrev pub IsReadAs : List ℕ → ℕ → Type 0
IsReadAs word v = (n : ℕ) × Spells word n × IsLimited n v

-- the word spells no number
abbrev pub SpellsNone : List ℕ → Type 0
SpellsNone word = (n : ℕ) → Spells word n → ⊥
