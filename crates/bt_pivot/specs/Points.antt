-- Where the positions of a tableau stand at its basis, with an infinitesimal for strict bounds.
use Rattle.std.specs.Prelude.{◌-◌, nat_lt, false, Option, Some, None, slice_index_or, if◌then◌else◌, ◌≡◌, ◌⊎◌, ◌<◌, Bool, true, ℕ}
use Rattle.bt_frac.specs.Ratio.{Ratio, negated}
use Rattle.bt_frac.specs.Rows.{RowParts}
use Rattle.bt_frac.specs.Values.{nothing}
use Rattle.bt_frac.specs.declared.delta.Delta.{Delta}
use Rattle.bt_frac.specs.declared.relation.Relation.{Relation}
use Rattle.bt_frac.specs.declared.relation.Relation.TheVariants.{AtLeast, Above, Equal}
use Rattle.bt_farkas.specs.WeightedRows.{empty_row}
use Rattle.bt_linear_forms.specs.Lines.{one, Terms, total}
use Rattle.bt_pivot.specs.SolvedForms.{slot_at, InBasis}
use Rattle.bt_pivot.specs.Tableaus.{TableauParts}
use Rattle.std.specs.declared.cmp.Ordering.{Ordering}
use Rattle.bt_frac.specs.Deltas.{IsOrderOfDeltas, SameDelta, IsLessDelta}

-- how often the infinitesimal stands in a bound of this relation: once where it is strict
abbrev pub tiny_of : Relation → Ratio
tiny_of AtLeast = nothing
tiny_of Above = one
tiny_of Equal = nothing

-- the least that the sum of a row may be: its bound, and for a strict row the infinitesimal more
abbrev pub bound_value : RowParts → Delta
bound_value row = record { value = row.bound; tiny = tiny_of row.relation }

-- the row of a position, where that is a row and bound
abbrev pub bound_row : TableauParts → ℕ → Option RowParts
bound_row t position =
    if nat_lt position t.columns then None
    else if slice_index_or t.bound (position - t.columns) false then Some (slice_index_or t.rows (position - t.columns) empty_row) else None

-- the bound value of a bound row, and 0 where there is none
abbrev pub value_or_zero : Option RowParts → Delta
value_or_zero (Some row) = bound_value row
value_or_zero None = record { value = nothing; tiny = nothing }

-- where a position outside the basis stands
abbrev pub resting : TableauParts → ℕ → Delta
resting t position = value_or_zero (bound_row t position)

-- where a position stands by its slot: as its line says, or where it rests
abbrev pub standing : (ℕ → Delta) → ℕ → Option Terms → Delta
standing rest position (Some terms) = record { value = total (λ q. (rest q).value) terms; tiny = total (λ q. (rest q).tiny) terms }
standing rest position None = rest position

-- the point at the basis
abbrev pub point_at : TableauParts → ℕ → Delta
point_at t position = standing (resting t) position (slot_at t.slots position)

-- two points with positive denominators are the same
pub record IsSamePoint (a b : Delta) : Type 0 where
  pub left_value : 0 < a.value.under
  pub left_tiny : 0 < a.tiny.under
  pub right_value : 0 < b.value.under
  pub right_tiny : 0 < b.tiny.under
  pub same : SameDelta a b

-- the point, with the other sign where this is told
abbrev pub signed_point : Bool → Delta → Delta
signed_point false point = point
signed_point true point = record { value = negated point.value; tiny = negated point.tiny }

-- a bound row doesn't hold where it stands: it is below its bound value, or it is an equation and above it
abbrev pub Breaks : RowParts → Delta → Type 0
Breaks row point = IsLessDelta point (bound_value row) ⊎ ((row.relation ≡ Equal) × IsLessDelta (bound_value row) point)

-- the position is in the basis, and it is a bound row that doesn't hold at the point
pub record Fails (t : TableauParts) (position : ℕ) : Type 0 where
  pub basic : InBasis t.slots position
  pub row : RowParts
  pub is_bound : bound_row t position ≡ Some row
  pub breaks : Breaks row (point_at t position)

-- the order of the bound value of a position's row, where it has one that is bound, and a point that is where it stands
abbrev pub IsBoundOrder : TableauParts → ℕ → Ordering → Type 0
IsBoundOrder t position order =
    (row : RowParts) → bound_row t position ≡ Some row → (point : Delta) × IsSamePoint point (point_at t position) × IsOrderOfDeltas order (bound_value row) point

-- the relation of a row, where there is one
abbrev pub relation_of : Option RowParts → Option Relation
relation_of (Some row) = Some row.relation
relation_of None = None
