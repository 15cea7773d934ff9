-- The pair that the parts of a text make.
use Rattle.std.specs.Prelude.{Bool, List}
use Rattle.bt_frac.specs.Ratio.{Ratio}
use Rattle.bt_same.specs.declared.pair.Pair.{Pair}

-- the pair with these flows and marks, of which both states have the loads and rooms
abbrev pub pair_from : List Ratio → List Ratio → List Ratio → List Bool → List Ratio → List Bool → Pair
pair_from loads rooms flows backed flows' backed' = record {
  first = record { flows = flows; backed = backed; loads = loads; rooms = rooms };
  second = record { flows = flows'; backed = backed'; loads = loads; rooms = rooms };
}
