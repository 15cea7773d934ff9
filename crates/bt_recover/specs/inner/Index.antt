-- The map from cells to the indices of the parts on them.
use Rattle.std.specs.Prelude.{◌≡◌, ℕ, ◌<◌, ◌≤◌, min, List, length, Option, Some, None}
use Rattle.std.specs.BTreeMap.{BTreeMap, get}
use Rattle.bt_parts.specs.declared.part.Cell.{Cell}
use Rattle.bt_parts.specs.declared.part.Part.{Part}
use Rattle.bt_parts.specs.Cells.{Covers}
use Rattle.bt_parts.specs.Layouts.{AreInRange, IsAt}
use Rattle.bt_parts.specs.Order.{cell_order}

-- the index at the cell
abbrev pub index_at : BTreeMap Cell ℕ → Cell → Option ℕ
index_at cells cell = get cell_order cells cell

-- the lesser of two indices of which either may be missing
abbrev pub IsLesser : Option ℕ → Option ℕ → Option ℕ → Type 0
IsLesser None other least = least ≡ other
IsLesser (Some i) None least = least ≡ Some i
IsLesser (Some i) (Some j) least = least ≡ Some (min i j)

-- the map tells of each cell which of the first n parts is on it
pub record IsIndexOf (parts : List Part) (n : ℕ) (cells : BTreeMap Cell ℕ) : Type 0 where
  pub sound : (cell : Cell) (i : ℕ) → index_at cells cell ≡ Some i → (i < n) × IsAt parts i cell
  pub complete : (cell : Cell) (i : ℕ) → i < n → IsAt parts i cell → index_at cells cell ≡ Some i

-- the map tells of each cell which part is on it, and the parts are in range
pub record Indexes (parts : List Part) (cells : BTreeMap Cell ℕ) : Type 0 where
  pub in_range : AreInRange parts
  pub index : IsIndexOf parts (length parts) cells

-- no cell of the part has an index
abbrev pub IsFreeFor : BTreeMap Cell ℕ → Part → Type 0
IsFreeFor cells part = (cell : Cell) → Covers part cell → index_at cells cell ≡ None

-- the least index on a cell of the part
pub record IsLeastOn (cells : BTreeMap Cell ℕ) (part : Part) (i : ℕ) : Type 0 where
  pub cell : Cell
  pub covered : Covers part cell
  pub there : index_at cells cell ≡ Some i
  pub least : (other : Cell) (j : ℕ) → Covers part other → index_at cells other ≡ Some j → i ≤ j

-- the new map has the index on the part's cells, and on the others what the old one has
pub record Adds (old new : BTreeMap Cell ℕ) (part : Part) (i : ℕ) : Type 0 where
  pub on_it : (cell : Cell) → Covers part cell → index_at new cell ≡ Some i
  pub others : (cell : Cell) → (Covers part cell → ⊥) → index_at new cell ≡ index_at old cell
