-- From where one part comes upon another, and which kinds take from there.
use Rattle.std.specs.Prelude.{◌≡◌, ◌≢◌}
use Rattle.bt_parts.specs.declared.part.Dir.{Dir}
use Rattle.bt_parts.specs.declared.part.Kind.{Kind}
use Rattle.bt_parts.specs.declared.part.Kind.TheVariants.{Belt, Entrance, Exit, Splitter}
use Rattle.bt_parts.specs.declared.part.Side.{Side}
use Rattle.bt_parts.specs.declared.part.Side.TheVariants.{Behind, Across, Ahead}
use Rattle.bt_parts.specs.Cells.{opposite}

-- the giver comes from there: from behind in the taker's direction, from ahead against it, else from a side
abbrev pub ComesFrom : Dir → Dir → Side → Type 0
ComesFrom giver taker Behind = giver ≡ taker
ComesFrom giver taker Across = (giver ≢ taker) × (giver ≢ opposite taker)
ComesFrom giver taker Ahead = giver ≡ opposite taker

-- a belt takes from behind and from a side, an entrance and a splitter from behind, an exit from nowhere
abbrev pub TakesFrom : Kind → Side → Type 0
TakesFrom Belt side = side ≢ Ahead
TakesFrom Entrance side = side ≡ Behind
TakesFrom Exit side = ⊥
TakesFrom Splitter side = side ≡ Behind
