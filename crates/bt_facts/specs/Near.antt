-- Cells so near that the next one can be told.
use Rattle.std.specs.Prelude.{◌+◌, ◌≤◌, unsigned_abs}
use Rattle.bt_parts.specs.declared.part.Cell.{Cell}
use Rattle.bt_parts.specs.declared.part.TheConstants.{MOST_COORDINATE}

-- each coordinate has at most one more than the greatest magnitude
abbrev pub IsNear : Cell → Type 0
IsNear c = (unsigned_abs c.x ≤ MOST_COORDINATE + 1) × (unsigned_abs c.y ≤ MOST_COORDINATE + 1)
