-- The signs of a line's numbers.
use Rattle.std.specs.Prelude.{◌≡◌, ℕ, ℤ, pos, ◌<ℤ◌, slice_index_or}
use Rattle.std.specs.declared.cmp.Ordering.{Ordering}
use Rattle.std.specs.Ordering.{MatchOrdering}
use Rattle.bt_frac.specs.Ratio.{Ratio}
use Rattle.bt_linear_forms.specs.Lines.{Terms}

-- o is the order of a number and 0
abbrev pub IsSign : Ordering → ℤ → Type 0
IsSign o z = MatchOrdering o (z <ℤ pos 0) (z ≡ pos 0) (pos 0 <ℤ z)

-- the position of the term at a place of a line, and the sign of its number
abbrev pub IsSignedTerm : Terms → ℕ → ℕ × Ordering → Type 0
IsSignedTerm terms index told = (number : Ratio) × ((told.0, number) ≡ slice_index_or terms index (told.0, number)) × IsSign told.1 number.over
