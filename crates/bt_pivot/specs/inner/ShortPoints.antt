-- Sums of terms of short lines, where their positions rest.
use Rattle.std.specs.Prelude.{◌≡◌, ◌⊎◌, ◌↔◌, ◌+ℤ◌, ◌*ℤ◌, Bool, IsTrue, ℤ}
use Rattle.bt_frac.specs.Ratio.{Ratio, IsLess}
use Rattle.bt_frac.specs.Rows.{RowParts}
use Rattle.bt_frac.specs.declared.delta.Delta.{Delta}
use Rattle.bt_frac.specs.declared.relation.Relation.{Relation}
use Rattle.bt_frac.specs.declared.relation.Relation.TheVariants.{Equal}
use Rattle.bt_pivot.specs.Points.{tiny_of, bound_value, Breaks, IsSamePoint, signed_point}
use Rattle.bt_pivot.specs.declared.short_points.Sums.{Sums}

-- the sums with the products of a whole number and where its position rests, which are whole numbers
pub record AddsWhole (rest : Delta) (sums : Sums) (over : ℤ) (next : Sums) : Type 0 where
  pub whole : ℤ
  pub value_rests : rest.value ≡ record { over = whole; under = 1 }
  pub value_is : next.value ≡ sums.value +ℤ over *ℤ whole
  pub often : ℤ
  pub tiny_rests : rest.tiny ≡ record { over = often; under = 1 }
  pub tiny_is : next.tiny ≡ sums.tiny +ℤ over *ℤ often
  pub under_is : next.under ≡ sums.under

-- a row of this relation doesn't hold where it stands at its bound, but for this multiple of the infinitesimal
abbrev pub BreaksTiny : Relation → Ratio → Type 0
BreaksTiny relation tiny = IsLess tiny (tiny_of relation) ⊎ ((relation ≡ Equal) × IsLess (tiny_of relation) tiny)

-- whether a row of this relation and bound value doesn't hold at a point
abbrev pub TellsBreak : Relation → Delta → Delta → Bool → Type 0
TellsBreak relation bound point told = (row : RowParts) → row.relation ≡ relation → bound_value row ≡ bound → (IsTrue told ↔ Breaks row point)

-- whether a row doesn't hold at a point that is this one, or at this one with the other sign where that is told
abbrev pub IsBreak : RowParts → Bool → Delta → Bool → Type 0
IsBreak row negated stands told = (point : Delta) × IsSamePoint point stands × (IsTrue told ↔ Breaks row (signed_point negated point))
