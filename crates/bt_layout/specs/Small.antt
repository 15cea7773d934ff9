-- What is right to say where small layouts of a request are looked for.
use Rattle.std.specs.Prelude.{ℕ, ◌<◌, ◌≤◌, ◌⊎◌, List, AllPairs, Contains, length, map, unwrap_or, Option, Some, None}
use Rattle.bt_parts.specs.declared.part.Rect.{Rect}
use Rattle.bt_model.specs.Laying.{Lays}
use Rattle.bt_entities.specs.declared.blueprint.TheConstants.{MOST_ENTITIES}
use Rattle.bt_model.specs.Requests.{LayoutRequest}
use Rattle.bt_model.specs.declared.request.TheConstants.{MOST_CELLS, MOST_ENCODED}
use Rattle.bt_place.specs.Solutions.{ComesAbove}
use Rattle.bt_grids.specs.declared.outcome.Small.{Small}
use Rattle.bt_grids.specs.declared.outcome.Small.TheVariants.{Found, Spent}
use Rattle.bt_layout.specs.Early.{AreRefuted}
use Rattle.bt_grids.specs.Grids.{area_of, IsWithin}
use Rattle.bt_grids.specs.Asked.{request_on}

-- the grid has fewer cells than so many, where a number is given
abbrev pub HasFewer : Option ℕ → Rect → Type 0
HasFewer (Some cells) grid = area_of grid < cells
HasFewer None grid = Unit {0}

-- the grid may be asked: it is within the greatest one, and has fewer cells than so many
abbrev pub MayBeAsked : LayoutRequest → Option ℕ → Rect → Type 0
MayBeAsked r cells grid = IsWithin r.rect grid × HasFewer cells grid

-- no parts lay the request on any grid that may be asked, as logs show, one for each, which have at most so many steps
-- together
pub record AreRuledOut (r : LayoutRequest) (cells : Option ℕ) (most : ℕ) : Type 0 where
  pub grids : List Rect
  pub all : (grid : Rect) → MayBeAsked r cells grid → Contains grids grid
  pub refuted : AreRefuted (map (request_on r) grids) most

-- it may be that none is found and nothing is known: the network has more edges or splitters than one of which formulas
-- are written, or more cells has the number that grids have fewer of, or the greatest grid where none is given
abbrev pub IsBeyond : LayoutRequest → Option ℕ → Type 0
IsBeyond r cells = (MOST_ENCODED < length r.net.edges) ⊎ (MOST_ENCODED < r.net.splitters) ⊎ (MOST_CELLS < unwrap_or cells (area_of r.rect))

-- what is right to say: the grid may be asked, and the parts, which come in ascending order of y and then x and are no
-- more than a blueprint may have, lay the request on it; or none are found in so many steps, which are no more than may
-- be taken, and where they are fewer, all grids that may be asked are ruled out
abbrev pub IsSmall : LayoutRequest → Option ℕ → ℕ → Small → Type 0
IsSmall r cells learnt (Found grid parts) =
    MayBeAsked r cells grid × Lays parts.items (request_on r grid) × AllPairs ComesAbove parts.items × (length parts.items ≤ MOST_ENTITIES)
IsSmall r cells learnt (Spent steps) = (IsBeyond r cells → ⊥) × (steps ≤ learnt) × (steps < learnt → AreRuledOut r cells steps)
