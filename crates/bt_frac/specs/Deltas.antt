-- A fraction and a multiple of an infinitesimal: less than each positive fraction, and above 0.
use Rattle.std.specs.Prelude.{◌⊎◌}
use Rattle.std.specs.declared.cmp.Ordering.{Ordering}
use Rattle.std.specs.Ordering.{MatchOrdering}
use Rattle.bt_frac.specs.Ratio.{Ratio, IsLowest, SameRatio, IsSum, CanAdd, IsWide, IsLess, negated}
use Rattle.bt_frac.specs.Products.{IsProduct}
use Rattle.bt_frac.specs.declared.delta.Delta.{Delta}

-- both parts are in lowest terms
pub record HasLowestParts (d : Delta) : Type 0 where
  pub value : IsLowest d.value
  pub tiny : IsLowest d.tiny

-- each part with the other sign
abbrev pub negated_parts : Delta → Delta
negated_parts d = record { value = negated d.value; tiny = negated d.tiny }

-- r is the sum of a and b, part by part
pub record AreSums (a b r : Delta) : Type 0 where
  pub value : IsSum a.value b.value r.value
  pub tiny : IsSum a.tiny b.tiny r.tiny

-- the working numbers of both additions fit
pub record CanAddParts (a b : Delta) : Type 0 where
  pub value : CanAdd a.value b.value
  pub tiny : CanAdd a.tiny b.tiny

-- one of the working numbers of one of the additions doesn't fit
abbrev pub AreWide : Delta → Delta → Type 0
AreWide a b = IsWide a.value b.value ⊎ IsWide a.tiny b.tiny

-- r is a times a fraction, part by part
pub record AreProducts (a : Delta) (by : Ratio) (r : Delta) : Type 0 where
  pub value : IsProduct a.value by r.value
  pub tiny : IsProduct a.tiny by r.tiny

-- no fraction is the product of one of the parts and this
abbrev pub HaveNoProducts : Delta → Ratio → Type 0
HaveNoProducts a by = ((f : Ratio) → IsLowest f → IsProduct a.value by f → ⊥) ⊎ ((f : Ratio) → IsLowest f → IsProduct a.tiny by f → ⊥)

-- a is less than b: by value, and where these are the same number, by the infinitesimal
abbrev pub IsLessDelta : Delta → Delta → Type 0
IsLessDelta a b = IsLess a.value b.value ⊎ (SameRatio a.value b.value × IsLess a.tiny b.tiny)

-- both parts are the same numbers
abbrev pub SameDelta : Delta → Delta → Type 0
SameDelta a b = SameRatio a.value b.value × SameRatio a.tiny b.tiny

-- o is the order of a and b
abbrev pub IsOrderOfDeltas : Ordering → Delta → Delta → Type 0
IsOrderOfDeltas o a b = MatchOrdering o (IsLessDelta a b) (SameDelta a b) (IsLessDelta b a)
