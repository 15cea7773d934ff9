use Rattle.std.proofs.Common.{ℕ, ◌<◌, get_or}
use Rattle.bt_parts.specs.declared.part.Part.{Part}
use Rattle.bt_parts.specs.Cells.{IsInRange}
use Rattle.hint_layouts.proofs.placed.are_in_range.Given as goal

-- all parts so far have coordinates in range
abbrev pub invariant-loop-part : goal.invariant-loop-part
invariant-loop-part l = (k : ℕ) (d : Part) → k < l.part-index → IsInRange (get_or l.parts k d).cell
