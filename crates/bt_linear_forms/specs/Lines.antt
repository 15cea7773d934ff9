-- Lines: sums of numbers times what stands at positions, of which only those that aren't 0 are kept.
use Rattle.std.specs.Prelude.{◌≢◌, ℕ, pos, Bool, true, false, List, map}
use Rattle.std.specs.List.{All}
use Rattle.bt_frac.specs.Ratio.{Ratio, SameRatio, IsLowest, negated}
use Rattle.bt_frac.specs.Columns.{AreColumnsFrom}
use Rattle.bt_frac.specs.Rows.{columns_of}
use Rattle.bt_frac.specs.Values.{AreValues, plus, times, valued, sum_of_products}

-- the whole number 1
abbrev pub one : Ratio
one = record { over = pos 1; under = 1 }

-- positions, each with its number
abbrev pub Terms : Type 0
Terms = List (ℕ × Ratio)

-- the number of a term is in lowest terms and isn't 0
abbrev pub HasNumber : ℕ × Ratio → Type 0
HasNumber term = IsLowest term.1 × (term.1.over ≢ pos 0)

-- the positions ascend from this least one on, and each has a number
pub record IsLineFrom (least : ℕ) (terms : Terms) : Type 0 where
  pub ascends : AreColumnsFrom least (columns_of terms)
  pub numbers : All HasNumber terms

-- the terms of a line
abbrev pub IsLine : Terms → Type 0
IsLine terms = IsLineFrom 0 terms

-- the sum of the terms, where this stands at the positions
abbrev pub total : (ℕ → Ratio) → Terms → Ratio
total at terms = sum_of_products (valued at terms)

-- whatever stands at the positions, the sum of the terms is that of the first and a number times that of the second
abbrev pub IsCombination : Terms → Ratio → Terms → Terms → Type 0
IsCombination left factor right terms =
    (at : ℕ → Ratio) → AreValues at → SameRatio (total at terms) (plus (total at left) (times factor (total at right)))

-- the terms, with the other sign where this is told
abbrev pub signed_terms : Bool → Terms → Terms
signed_terms false terms = terms
signed_terms true terms = map (λ t. (t.0, negated t.1)) terms
