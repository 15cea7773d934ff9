-- What comparisons of fractions tell of the whole numbers that the fractions are over a denominator.
use Rattle.std.specs.Prelude.{◌↔◌, ◌<◌, ℕ, ℤ, Bool, IsTrue}
use Rattle.bt_frac.specs.Ratio.{Ratio, IsOver}

-- this is whether the claim is true of two numbers, whatever denominator they are put over
abbrev pub TellsOfTwo : Ratio → Ratio → (ℤ → ℤ → Type 0) → Bool → Type 0
TellsOfTwo a b Claim result = (x y : ℤ) (d : ℕ) → 0 < d → IsOver a x d → IsOver b y d → IsTrue result ↔ Claim x y

-- this is whether the claim is true of a number, whatever denominator it is put over
abbrev pub TellsOfOne : Ratio → (ℤ → ℕ → Type 0) → Bool → Type 0
TellsOfOne a Claim result = (x : ℤ) (d : ℕ) → 0 < d → IsOver a x d → IsTrue result ↔ Claim x d

-- this is whether the claim is true of three numbers, whatever denominator they are put over
abbrev pub TellsOfThree : Ratio → Ratio → Ratio → (ℤ → ℤ → ℤ → Type 0) → Bool → Type 0
TellsOfThree a b c Claim result = (x y z : ℤ) (d : ℕ) → 0 < d → IsOver a x d → IsOver b y d → IsOver c z d → IsTrue result ↔ Claim x y z
