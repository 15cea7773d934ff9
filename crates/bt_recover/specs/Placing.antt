-- The right answer to parts that are to be placed.
use Rattle.std.specs.Prelude.{◌≡◌, ℕ, ◌<◌, List, Result, Ok, Err}
use Rattle.bt_parts.specs.declared.part.Part.{Part}
use Rattle.bt_parts.specs.Layouts.{ShareCell, IsWellPlaced}
use Rattle.bt_recover.specs.declared.grid.GridFault.{GridFault}
use Rattle.bt_recover.specs.declared.grid.GridFault.TheVariants.{Overlap, Memory}

-- the second is the least index that shares a cell with an earlier one, and the first is the least such earlier one
pub record IsFirstOverlap (parts : List Part) (first second : ℕ) : Type 0 where
  pub earlier : first < second
  pub shared : ShareCell parts first second
  pub none_before : (i j : ℕ) → i < j → j < second → ShareCell parts i j → ⊥
  pub least : (i : ℕ) → i < first → ShareCell parts i second → ⊥

-- the grid has these parts, of which no two share a cell, or the first overlap is told
abbrev pub IsPlaced : List Part → Result (List Part) GridFault → Type 0
IsPlaced parts (Ok grid) = (grid ≡ parts) × IsWellPlaced parts
IsPlaced parts (Err (Overlap first second)) = IsFirstOverlap parts first second
IsPlaced parts (Err Memory) = ⊥
