-- The reach and the speed of each tier, after the Factorio Wiki.
use Rattle.std.specs.Prelude.{ℕ}
use Rattle.bt_parts.specs.declared.part.Tier.{Tier}
use Rattle.bt_parts.specs.declared.part.Tier.TheVariants.{Basic, Fast, Express, Turbo}

-- so many tiles at most lie between the two ends of an underground pair
abbrev pub reach_of : Tier → ℕ
reach_of Basic = 4
reach_of Fast = 6
reach_of Express = 8
reach_of Turbo = 10

-- the speed as a multiple of the basic tier's
abbrev pub speed_of : Tier → ℕ
speed_of Basic = 1
speed_of Fast = 2
speed_of Express = 3
speed_of Turbo = 4
