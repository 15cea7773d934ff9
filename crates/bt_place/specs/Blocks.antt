-- Where the blocks of variables begin.
use Rattle.bt_place.specs.declared.blocks.Starts.{Starts}
use Rattle.bt_place.specs.Numbering as numbering
use Rattle.bt_place.specs.Numbering.{Sizes}

-- where the blocks begin, after that of the classes which cells carry, which begins at 0; and where all end
abbrev pub starts_of : Sizes → Starts
starts_of z = record {
  halves = numbering.halves_from z;
  belts = numbering.belts_from z;
  begins = numbering.begins_from z;
  starts = numbering.starts_from z;
  stops = numbering.stops_from z;
  lies = numbering.lies_from z;
  pairs = numbering.pairs_from z;
  tunnels = numbering.tunnels_from z;
  goings = numbering.goings_from z;
  columns = numbering.columns_from z;
  rows = numbering.rows_from z;
  points = numbering.points_from z;
  entering = numbering.entering_from z;
  leaving = numbering.leaving_from z;
  held = numbering.held_from z;
  kinds = numbering.kinds_from z;
  places = numbering.places_from z;
  end = numbering.variables z;
}
