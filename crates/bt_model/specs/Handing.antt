-- Which part looks at which, and which hands what it carries to which.
use Rattle.std.specs.Prelude.{◌≡◌, ◌≢◌, ℕ, List, ◌⊎◌}
use Rattle.bt_parts.specs.declared.part.Cell.{Cell}
use Rattle.bt_parts.specs.declared.part.Kind.{Kind}
use Rattle.bt_parts.specs.declared.part.Kind.TheVariants.{Belt, Entrance, Exit, Splitter}
use Rattle.bt_parts.specs.declared.part.Part.{Part}
use Rattle.bt_parts.specs.declared.part.Side.{Side}
use Rattle.bt_parts.specs.declared.part.Side.TheVariants.{Behind, Across, Ahead}
use Rattle.bt_parts.specs.Cells.{step, Covers}
use Rattle.bt_parts.specs.Handing.{ComesFrom, TakesFrom}
use Rattle.bt_parts.specs.Layouts.{IsAt, Pairs}

-- p, which is no entrance, looks from this cell of it at q, upon which it comes from this side: q is on the cell in
-- front
pub record LooksFrom (parts : List Part) (p : ℕ) (half : Cell) (q : ℕ) (side : Side) : Type 0 where
  pub giver : IsAt parts p half
  pub no_entrance : giver.part.kind ≢ Entrance
  pub taker : IsAt parts q (step giver.part.dir half)
  pub comes : ComesFrom giver.part.dir taker.part.dir side

-- p looks from this cell of it at q, and q takes what comes from there
pub record FeedsFrom (parts : List Part) (p : ℕ) (half : Cell) (q : ℕ) : Type 0 where
  pub side : Side
  pub look : LooksFrom parts p half q side
  pub takes : TakesFrom look.taker.part.kind side

-- the giver, which is no entrance, looks from this cell of it at the taker, and the taker takes what comes from there
pub record FeedsPart (giver : Part) (half : Cell) (taker : Part) : Type 0 where
  pub no_entrance : giver.kind ≢ Entrance
  pub covers : Covers giver half
  pub faces : Covers taker (step giver.dir half)
  pub side : Side
  pub comes : ComesFrom giver.dir taker.dir side
  pub takes : TakesFrom taker.kind side

-- p is a feeder of q: it looks at q, and q takes
abbrev pub Feeds : List Part → ℕ → ℕ → Type 0
Feeds parts p q = (half : Cell) × FeedsFrom parts p half q

-- p hands to q: the two are a pair, or p is a feeder of q
abbrev pub Hands : List Part → ℕ → ℕ → Type 0
Hands parts p q = Pairs parts p q ⊎ Feeds parts p q

-- the kind blocks what comes from this side: a belt and an entrance from ahead, an exit from behind and ahead, a
-- splitter from all but behind
abbrev pub BlocksFrom : Kind → Side → Type 0
BlocksFrom Belt side = side ≡ Ahead
BlocksFrom Entrance side = side ≡ Ahead
BlocksFrom Exit side = side ≢ Across
BlocksFrom Splitter side = side ≢ Behind
