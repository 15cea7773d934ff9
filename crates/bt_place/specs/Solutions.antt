-- The assignments that are decoded, and the order of the parts.
use Rattle.std.specs.Prelude.{◌≡◌, ℕ, Bool, List, ◌⊎◌, ◌<ℤ◌}
use Rattle.bt_parts.specs.declared.part.Part.{Part}
use Rattle.bt_frac.specs.Ratio.{Ratio}
use Rattle.bt_cnf.specs.Assignments.{truth_in}
use Rattle.bt_cnf.specs.Meeting.{Meets}
use Rattle.bt_model.specs.Requests.{LayoutRequest}
use Rattle.bt_place.specs.PlaceFormula.{place_formula}

-- the assignment meets the placement formula of the request, which has no atoms: whatever the values, for some
abbrev pub IsSolution : LayoutRequest → List Bool → Type 0
IsSolution r assignment = (values : ℕ → Ratio) × Meets (place_formula r) (truth_in assignment) values

-- the cell of the one part comes before that of the other: the lesser y first, and of equal y the lesser x
abbrev pub ComesAbove : Part → Part → Type 0
ComesAbove one other = (one.cell.y <ℤ other.cell.y) ⊎ ((one.cell.y ≡ other.cell.y) × (one.cell.x <ℤ other.cell.x))
