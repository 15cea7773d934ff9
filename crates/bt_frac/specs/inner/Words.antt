-- The words that spell fractions, as they are taken apart.
use Rattle.std.specs.Prelude.{◌≡◌, ◌≢◌, ℕ, ◌⊎◌, ◌<◌, List, ◌∷◌, ◌++◌, All, Bool, IsTrue, cond}
use Rattle.std.specs.Str.Parse.{AllDigits, digits_value}
use Rattle.bt_frac.specs.Numbers.{Spells, IsLimited}
use Rattle.bt_frac.specs.Ratio.{Ratio, IsLowest, parts_ratio}

-- no slash stands in a word
abbrev pub HasNoSlash : List ℕ → Type 0
HasNoSlash word = All (λ byte. byte ≢ 47) word

-- what stands before the first slash of a word, and what stands after it
pub record IsCutAtSlash (word front back : List ℕ) : Type 0 where
  pub first : HasNoSlash front
  pub word_is : word ≡ front ++ 47 ∷ back

-- these are the numerals of m and of n, which isn't 1
abbrev pub AroundSlash : List ℕ → List ℕ → ℕ → ℕ → Type 0
AroundSlash front back m n = Spells front m × Spells back n × (n ≢ 1)

-- the word is the numeral of m, and n is 1; or it is the numerals of m and n around a slash, and n isn't 1
abbrev pub WordOf : List ℕ → ℕ → ℕ → Type 0
WordOf word m n = (Spells word m × (n ≡ 1))
    ⊎ ((front : List ℕ) × ((back : List ℕ) × (word ≡ front ++ 47 ∷ back) × AroundSlash front back m n))

-- the text is the word, with a minus in front of it where the number is negative
abbrev pub IsSigned : List ℕ → Bool → List ℕ → Type 0
IsSigned text negative word = text ≡ cond negative (45 ∷ word) word

-- the numbers that were read of a word
abbrev pub HasRead : List ℕ → ℕ → ℕ → Type 0
HasRead word size under = (m : ℕ) × ((n : ℕ) × WordOf word m n × IsLimited m size × IsLimited n under)

-- the numbers that were read of the two sides of a slash
abbrev pub AreRead : List ℕ → List ℕ → ℕ → ℕ → Type 0
AreRead front back size under = (m : ℕ) × ((n : ℕ) × AroundSlash front back m n × IsLimited m size × IsLimited n under)

-- the bytes are digits, and this is their value as it is read
abbrev pub AreDigitsOf : List ℕ → ℕ → Type 0
AreDigitsOf bytes v = AllDigits 10 bytes × IsLimited (digits_value 10 bytes) v

-- there is a minus only before a number other than 0
abbrev pub MayHaveSign : Bool → ℕ → Type 0
MayHaveSign negative size = IsTrue negative → 0 < size

-- the fraction has this sign, which it may have, and these parts
abbrev pub HasSignAndParts : Bool → ℕ → ℕ → Ratio → Type 0
HasSignAndParts negative size under f = (f ≡ parts_ratio negative size under) × MayHaveSign negative size

-- no fraction has this sign and these parts
abbrev pub AreNoParts : Bool → ℕ → ℕ → Type 0
AreNoParts negative size under = MayHaveSign negative size → IsLowest (parts_ratio negative size under) → ⊥
