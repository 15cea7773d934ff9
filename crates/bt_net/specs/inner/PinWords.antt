-- The words of a line that names a cell.
use Rattle.std.specs.Prelude.{◌≡◌, ℕ, ◌<◌, List, ◌++◌, Option, codes, decimal}
use Rattle.bt_parts.specs.declared.part.Dir.{Dir}
use Rattle.bt_net.specs.declared.network.TheConstants.{NO_COORDINATE}
use Rattle.bt_net.specs.PinText.{way_text}

-- the second number of a cell, and the direction where there is one
abbrev pub AreRowAndWay : List ℕ → ℕ → Option Dir → Type 0
AreRowAndWay words y way = (words ≡ decimal y ++ way_text way) × (y < NO_COORDINATE)

-- the two numbers of a cell, and the direction where there is one
abbrev pub AreCellAndWay : List ℕ → ℕ → ℕ → Option Dir → Type 0
AreCellAndWay words x y way = (row : List ℕ) × (words ≡ decimal x ++ codes " " ++ row) × (x < NO_COORDINATE) × AreRowAndWay row y way
