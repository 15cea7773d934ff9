-- Fractions: a whole number over a positive whole number.
use Rattle.std.specs.Prelude.{◌≡◌, ℕ, ◌<◌, ◌*◌, ◌/◌, ◌^◌, ℤ, pos, ◌+ℤ◌, ◌*ℤ◌, ◌<ℤ◌, ◌≤ℤ◌, unsigned_abs, neg_ℤ, List, Bool, if◌then◌else◌}
use Rattle.std.specs.List.{AllZip}
use Rattle.std.specs.Int.{IsGcd}

-- a numerator over a denominator
pub record Ratio : Type 0 where
  pub over : ℤ
  pub under : ℕ

-- two fractions are the same number
abbrev pub SameRatio : Ratio → Ratio → Type 0
SameRatio a b = a.over *ℤ pos b.under ≡ b.over *ℤ pos a.under

-- a number whose magnitude is at most 2 ^ 127 - 1
abbrev pub FitsPart : ℤ → Type 0
FitsPart z = unsigned_abs z < 2 ^ 127

-- in lowest terms, with a positive denominator, and both parts fit
pub record IsLowest (r : Ratio) : Type 0 where
  pub positive : 0 < r.under
  pub coprime : IsGcd (unsigned_abs r.over) r.under 1
  pub over_fits : FitsPart r.over
  pub under_fits : r.under < 2 ^ 127

-- r is the number p / q
abbrev pub IsQuotient : ℤ → ℤ → Ratio → Type 0
IsQuotient p q r = r.over *ℤ q ≡ p *ℤ pos r.under

-- the numerator of this magnitude and sign over a denominator
abbrev pub parts_ratio : Bool → ℕ → ℕ → Ratio
parts_ratio negative size under = record { over = if negative then neg_ℤ (pos size) else pos size; under = under }

-- both parts are below 2 ^ 63
pub record IsShort (r : Ratio) : Type 0 where
  pub over_short : unsigned_abs r.over < 2 ^ 63
  pub under_short : r.under < 2 ^ 63

-- the numbers that an addition works with
pub record AddNumbers (a b : Ratio) : Type 0 where
  pub common : ℕ
  pub is_common : IsGcd a.under b.under common
  pub left : ℤ
  pub left_is : left ≡ a.over *ℤ pos (b.under / common)
  pub right : ℤ
  pub right_is : right ≡ b.over *ℤ pos (a.under / common)
  pub under : ℕ
  pub under_is : under ≡ a.under * (b.under / common)

-- all of them fit
pub record AddFits {a b : Ratio} (n : AddNumbers a b) : Type 0 where
  pub left_fits : FitsPart n.left
  pub right_fits : FitsPart n.right
  pub sum_fits : FitsPart (n.left +ℤ n.right)
  pub under_fits : n.under < 2 ^ 127

-- the working numbers of an addition all fit
abbrev pub CanAdd : Ratio → Ratio → Type 0
CanAdd a b = (n : AddNumbers a b) × AddFits n

-- one of the working numbers of an addition doesn't fit
abbrev pub IsWide : Ratio → Ratio → Type 0
IsWide a b = (n : AddNumbers a b) × (AddFits n → ⊥)

-- the fraction with the other sign
abbrev pub negated : Ratio → Ratio
negated r = record { over = neg_ℤ r.over; under = r.under }

-- r is the sum of a and b
abbrev pub IsSum : Ratio → Ratio → Ratio → Type 0
IsSum a b r = r.over *ℤ pos (a.under * b.under) ≡ (a.over *ℤ pos b.under +ℤ b.over *ℤ pos a.under) *ℤ pos r.under

-- a is less than b
abbrev pub IsLess : Ratio → Ratio → Type 0
IsLess a b = (a.over *ℤ pos b.under) <ℤ (b.over *ℤ pos a.under)

-- a is less than b or the same number
abbrev pub IsAtMost : Ratio → Ratio → Type 0
IsAtMost a b = (a.over *ℤ pos b.under) ≤ℤ (b.over *ℤ pos a.under)

-- r is the whole number w over the denominator d
abbrev pub IsOver : Ratio → ℤ → ℕ → Type 0
IsOver r w d = r.over *ℤ pos d ≡ w *ℤ pos r.under

-- each fraction of a list is the whole number in its place over the denominator d
abbrev pub AreOver : List Ratio → List ℤ → ℕ → Type 0
AreOver rs ws d = AllZip (λ r w. IsOver r w d) rs ws
