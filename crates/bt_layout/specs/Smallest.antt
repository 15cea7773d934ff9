-- What is right to say of the least grid on which parts lay a request.
use Rattle.std.specs.Prelude.{ℕ, ◌≤◌, List, ◌∷◌, ◌++◌, All, AllPairs, Option, length, map}
use Rattle.bt_parts.specs.declared.part.Rect.{Rect}
use Rattle.bt_entities.specs.declared.blueprint.TheConstants.{MOST_ENTITIES}
use Rattle.bt_model.specs.Laying.{Lays}
use Rattle.bt_model.specs.Requests.{LayoutRequest}
use Rattle.bt_place.specs.PlaceFormula.{place_formula}
use Rattle.bt_place.specs.Solutions.{ComesAbove}
use Rattle.bt_theory.specs.Outcomes.{IsRefutation, IsUsedUp}
use Rattle.bt_log.specs.Trimming.{IsTightOver}
use Rattle.bt_layout.specs.Layouts.{HasNoLayout}
use Rattle.bt_grids.specs.declared.outcome.RuledOut.{RuledOut}
use Rattle.bt_grids.specs.declared.outcome.Smallest.{Smallest}
use Rattle.bt_grids.specs.declared.outcome.Smallest.TheVariants.{Found, Nowhere, Spent}
use Rattle.bt_grids.specs.Asked.{request_on}
use Rattle.bt_grids.specs.Grids.{AreGridsFrom, ComesBefore, IsSkipped, IsWithin}

-- no parts lay the request on the grid: the log, which has at most so many steps, each but the last needed, refutes the
-- placement formula
pub record IsRuledOut (r : LayoutRequest) (learnt : ℕ) (one : RuledOut) : Type 0 where
  pub none : HasNoLayout (request_on r one.grid)
  pub refuted : IsRefutation (place_formula (request_on r one.grid)) one.log.steps
  pub few : length one.log.steps ≤ learnt
  pub tight : IsTightOver (place_formula (request_on r one.grid)) one.log

-- the grids that are ruled out
abbrev pub grids_of : List RuledOut → List Rect
grids_of earlier = map (λ (one : RuledOut). one.grid) earlier

-- all grids before this one in the order of grids are ruled out, but those that the search passes by
pub record IsFirstLeft (first : Option Rect) (r : LayoutRequest) (learnt : ℕ) (earlier : List RuledOut) (grid : Rect) : Type 0 where
  pub later : List Rect
  pub in_order : AreGridsFrom first r.rect (grids_of earlier ++ grid ∷ later)
  pub ruled_out : All (IsRuledOut r learnt) earlier

-- what is right to say of the grids that a search doesn't pass by: the parts lay the request of the grid, in ascending
-- order of y and then x, no more than a blueprint may have, and all those before it are ruled out; or all of them are;
-- or those before the grid are, of whose request the log has so many steps, and one more is needed
abbrev pub IsSmallest : Option Rect → LayoutRequest → ℕ → Smallest → Type 0
IsSmallest first r learnt (Found earlier grid parts) =
    IsFirstLeft first r learnt earlier.items grid × Lays parts.items (request_on r grid) × AllPairs ComesAbove parts.items
    × (length parts.items ≤ MOST_ENTITIES)
IsSmallest first r learnt (Nowhere earlier) = AreGridsFrom first r.rect (grids_of earlier.items) × All (IsRuledOut r learnt) earlier.items
IsSmallest first r learnt (Spent earlier grid log) =
    IsFirstLeft first r learnt earlier.items grid × IsUsedUp (place_formula (request_on r grid)) learnt log.steps

-- a grid that the search left behind: one before the grid that it names, or any where it names none
abbrev pub IsPassed : Smallest → Rect → Type 0
IsPassed (Found earlier grid parts) other = ComesBefore other grid
IsPassed (Nowhere earlier) other = Unit {0}
IsPassed (Spent earlier grid log) other = ComesBefore other grid

-- no parts lay the request on a grid that the search left behind, but those that it passed by
abbrev pub PassedHasNoLayout : Type 0
PassedHasNoLayout = (first : Option Rect) (r : LayoutRequest) (learnt : ℕ) (answer : Smallest) (grid : Rect) → IsSmallest first r learnt answer
    → IsWithin r.rect grid → (IsSkipped first grid → ⊥) → IsPassed answer grid → HasNoLayout (request_on r grid)
