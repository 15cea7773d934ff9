-- What was found so far, and what is left.
use Rattle.std.specs.Prelude.{◌≡◌, ◌⊎◌, ℕ, ◌+◌, ◌^◌, ◌<◌, ◌≤◌, List, All, AllPairs, Contains, IfSome, Option, Some, None, drop, get_or, length, map, slice_get, take}
use Rattle.bt_parts.specs.declared.part.Rect.{Rect}
use Rattle.bt_model.specs.Requests.{LayoutRequest}
use Rattle.bt_layout.specs.declared.likely.Tried.{Tried}
use Rattle.bt_grids.specs.declared.outcome.Layout.{Layout}
use Rattle.bt_grids.specs.declared.outcome.Layout.TheVariants as layout
use Rattle.bt_layout.specs.declared.progress.Laid.{Laid}
use Rattle.bt_layout.specs.declared.progress.Progress.{Progress}
use Rattle.bt_layout.specs.declared.searching.Searched.{Searched}
use Rattle.bt_layout.specs.declared.sweep.Sweep.{Sweep}
use Rattle.bt_layout.specs.Early.{AreRefuted, IsLaid}
use Rattle.bt_layout.specs.Small.{HasFewer, MayBeAsked}
use Rattle.bt_grids.specs.Asked.{request_on}
use Rattle.bt_layout.specs.inner.Ends.{IsSought}
use Rattle.bt_layout.specs.inner.Likely.{IsTried}

-- the parts that were found lay the request at their place, and the steps are no more than may be taken
pub record IsProgress (requests : List LayoutRequest) (learnt : ℕ) (progress : Progress) : Type 0 where
  pub found : IfSome progress.found (λ laid. IsLaid requests laid.place laid.parts)
  pub few : progress.steps ≤ learnt

-- how many of so many requests are lesser: those before the one that was laid, or all
abbrev pub lesser_of : ℕ → Option Laid → ℕ
lesser_of count (Some laid) = laid.place
lesser_of count None = count

-- so many more steps may be taken
pub record ArePaid (learnt taken steps : ℕ) : Type 0 where
  pub few : taken + steps ≤ learnt
  pub limit : learnt < 2 ^ 64

-- each place is one of the list and before that of the request that was laid, and they ascend
pub record IsSweep (requests : List LayoutRequest) (learnt : ℕ) (sweep : Sweep) : Type 0 where
  pub progress : IsProgress requests learnt sweep.progress
  pub lesser : All (λ place. place < lesser_of (length requests) sweep.progress.found) sweep.places.items
  pub in_order : AllPairs (λ one other. one < other) sweep.places.items

-- the place at an index
abbrev pub at_index : Sweep → ℕ → ℕ
at_index sweep at = get_or sweep.places.items at 0

-- what a search for a layout of the request comes to whose place is at this index, where so many steps may be taken
pub record IsSearched (requests : List LayoutRequest) (learnt : ℕ) (sweep : Sweep) (at : ℕ) (tried : Tried) : Type 0 where
  pub request : LayoutRequest
  pub is : slice_get requests (at_index sweep at) ≡ Some request
  pub most : ℕ
  pub is_tried : IsTried request most tried
  pub left : sweep.progress.steps + most ≤ learnt
  pub limit : learnt < 2 ^ 64

-- where no parts were found, the log has so many steps, or one that refutes the formula no more
abbrev pub HasLog : Layout → ℕ → Type 0
HasLog (layout.Found parts) steps = Unit {0}
HasLog (layout.Nowhere log) steps = length log.steps ≤ steps
HasLog (layout.Spent log) steps = length log.steps ≡ steps

-- what a search of the placement formula comes to that may take so many steps
pub record IsWhole (r : LayoutRequest) (most : ℕ) (searched : Searched) : Type 0 where
  pub layout : IsSought r most searched.layout
  pub few : searched.steps ≤ most
  pub has_log : HasLog searched.layout searched.steps

-- what a search comes to of the placement formula of the request at this place, which may take all steps that are left
pub record IsEnded (requests : List LayoutRequest) (learnt : ℕ) (progress : Progress) (place : ℕ) (searched : Searched) : Type 0 where
  pub request : LayoutRequest
  pub is : slice_get requests place ≡ Some request
  pub most : ℕ
  pub whole : IsWhole request most searched
  pub left : progress.steps + most ≡ learnt
  pub limit : learnt < 2 ^ 64

-- the requests that are lesser than the one that was laid, from this place on
abbrev pub lesser_from : List LayoutRequest → ℕ → Option Laid → List LayoutRequest
lesser_from requests place found = drop place (take (lesser_of (length requests) found) requests)

-- all steps were taken, or no parts lay any of the requests that are lesser than the one that was laid, from this place
-- on
abbrev pub ArePassed : List LayoutRequest → ℕ → ℕ → Progress → Type 0
ArePassed requests learnt place progress = (progress.steps ≡ learnt) ⊎ AreRefuted (lesser_from requests place progress.found) progress.steps

-- the requests are the same on those of these grids that have fewer cells than so many
pub record AskSmall (r : LayoutRequest) (cells : Option ℕ) (grids : List Rect) (requests : List LayoutRequest) : Type 0 where
  pub asked : List Rect
  pub are : requests ≡ map (request_on r) asked
  pub only : All (MayBeAsked r cells) asked
  pub all : (grid : Rect) → Contains grids grid → HasFewer cells grid → Contains asked grid

-- the requests are the same on each grid that may be asked
pub record AskEach (r : LayoutRequest) (cells : Option ℕ) (requests : List LayoutRequest) : Type 0 where
  pub grids : List Rect
  pub are : requests ≡ map (request_on r) grids
  pub only : All (MayBeAsked r cells) grids
  pub all : (grid : Rect) → MayBeAsked r cells grid → Contains grids grid
