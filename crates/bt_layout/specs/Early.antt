-- What is right to say where a layout of one of several requests is looked for.
use Rattle.std.specs.Prelude.{◌≡◌, ℕ, ◌<◌, ◌≤◌, List, AllPairs, length, map, slice_get, Some, Vec}
use Rattle.std.specs.List.{AllZip, sum}
use Rattle.std.specs.declared.alloc.Global.{Global}
use Rattle.bt_log.specs.Logs.{Step}
use Rattle.bt_parts.specs.declared.part.Part.{Part}
use Rattle.bt_model.specs.Laying.{Lays}
use Rattle.bt_model.specs.Requests.{LayoutRequest}
use Rattle.bt_place.specs.PlaceFormula.{place_formula}
use Rattle.bt_place.specs.Solutions.{ComesAbove}
use Rattle.bt_theory.specs.Outcomes.{IsRefutation}
use Rattle.bt_layout.specs.Layouts.{HasNoLayout}
use Rattle.bt_grids.specs.declared.outcome.Early.{Early}
use Rattle.bt_grids.specs.declared.outcome.Early.TheVariants.{Laid, Spent}

-- the parts lay the request at this place of the list, and come in ascending order of y and then x
pub record IsLaid (requests : List LayoutRequest) (place : ℕ) (parts : Vec Part Global) : Type 0 where
  pub request : LayoutRequest
  pub at_place : slice_get requests place ≡ Some request
  pub lays : Lays parts.items request
  pub in_order : AllPairs ComesAbove parts.items

-- no parts lay the request: the log refutes its placement formula
pub record IsRefuted (r : LayoutRequest) (steps : List Step) : Type 0 where
  pub none : HasNoLayout r
  pub refuted : IsRefutation (place_formula r) steps

-- no parts lay any of the requests, as logs show, one for each, which have at most so many steps together
pub record AreRefuted (requests : List LayoutRequest) (most : ℕ) : Type 0 where
  pub logs : List (List Step)
  pub each : AllZip IsRefuted requests logs
  pub few : sum (map length logs) ≤ most

-- none is found in so many steps: they are no more than may be taken, and where they are fewer, no parts lay any of the
-- requests
pub record FindsNone (requests : List LayoutRequest) (learnt steps : ℕ) : Type 0 where
  pub few : steps ≤ learnt
  pub none : steps < learnt → AreRefuted requests steps

-- what is right to say: the parts lay the request at the place; or none is found in so many steps
abbrev pub IsEarly : List LayoutRequest → ℕ → Early → Type 0
IsEarly requests learnt (Laid place parts) = IsLaid requests place parts
IsEarly requests learnt (Spent steps) = FindsNone requests learnt steps
