-- Grids that a search left behind.
use Rattle.std.specs.Prelude.{◌≡◌, ℕ, List, All, take}
use Rattle.bt_parts.specs.declared.part.Rect.{Rect}
use Rattle.bt_model.specs.Requests.{LayoutRequest}
use Rattle.bt_grids.specs.declared.outcome.RuledOut.{RuledOut}
use Rattle.bt_layout.specs.Smallest.{IsRuledOut, grids_of}

-- the first so many of the grids are ruled out
pub record ArePassed (r : LayoutRequest) (learnt : ℕ) (grids : List Rect) (count : ℕ) (earlier : List RuledOut) : Type 0 where
  pub first : grids_of earlier ≡ take count grids
  pub ruled_out : All (IsRuledOut r learnt) earlier
