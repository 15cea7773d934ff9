-- Where the blocks of variables begin, and the sizes of which they are.
use Rattle.std.specs.Prelude.{◌≡◌, ℕ, ◌+◌, ◌-◌, ◌*◌, List, slice_index}
use Rattle.bt_parts.specs.declared.part.Cell.{Cell}
use Rattle.bt_model.specs.Requests.{LayoutRequest, IsRequest}
use Rattle.bt_facts.specs.declared.fact.Class.{Class}
use Rattle.bt_place.specs.declared.blocks.Extent.{Extent}
use Rattle.bt_place.specs.declared.blocks.Starts.{Starts}
use Rattle.bt_place.specs.Numbering.{Sizes, spots, along}
use Rattle.bt_place.specs.Blocks.{starts_of}
use Rattle.bt_place.specs.PlaceFormula.{sizes_of}

-- the sizes with these classes and ranks
abbrev pub sizes_with : Extent → List Class → List ℕ → Sizes
sizes_with e classes ranks = record {
  width = e.width;
  height = e.height;
  splitters = e.splitters;
  halves = e.halves;
  inputs = e.inputs;
  stops = e.stops;
  lines = e.lines;
  distances = e.distances;
  classes = classes;
  ranks = ranks;
}

-- the sizes of a request, and where their blocks begin
pub record AreNumbers (z : Sizes) (starts : Starts) : Type 0 where
  pub request : LayoutRequest
  pub is_request : IsRequest request
  pub of_request : z ≡ sizes_of request
  pub begin : starts ≡ starts_of z

-- the number of a splitter's place on a cell, where that of the first splitter on the first cell comes last
abbrev pub place_number : Sizes → ℕ → Cell → ℕ
place_number z s c = (z.splitters - 1 - slice_index z.ranks s) * spots z + (spots z - 1 - along z c)
