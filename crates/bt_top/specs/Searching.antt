-- What `smallest` answers.
use Rattle.std.specs.Prelude.{◌≡◌, ℕ, List, [], Option, Ok}
use Rattle.std.specs.Global.{Vec}
use Rattle.bt_parts.specs.declared.hand.Priority.{Priority}
use Rattle.bt_parts.specs.declared.part.Rect.{Rect}
use Rattle.bt_parts.specs.declared.part.Tier.{Tier}
use Rattle.bt_model.specs.Laying.{LaysPreferring}
use Rattle.bt_model.specs.Requests.{LayoutRequest}
use Rattle.bt_entities.specs.ReadBack.{IsReadBack}
use Rattle.bt_grids.specs.declared.outcome.Smallest.{Smallest}
use Rattle.bt_grids.specs.declared.outcome.Smallest.TheVariants.{Found, Nowhere, Spent}
use Rattle.bt_grids.specs.Asked.{request_on}
use Rattle.bt_layout.specs.Smallest.{IsSmallest}
use Rattle.bt_print.specs.declared.answer.Answer.TheVariants as answer
use Rattle.bt_print.specs.Replies.{Reply, UnlessLarge, design_told}
use Rattle.bt_designs.specs.Requested.{IsSidedRequest}
use Rattle.bt_designs.specs.Steps.{InTurn}

-- the blueprint that is written of parts that are found is read as these parts
abbrev pub IsLeastFoundAgain : Smallest → List Priority → Type 0
IsLeastFoundAgain (Found earlier grid parts) priorities = IsReadBack parts.items priorities
IsLeastFoundAgain (Nowhere earlier) priorities = Unit {0}
IsLeastFoundAgain (Spent earlier grid log) priorities = Unit {0}

-- the parts that are found lay the request on their grid with these priorities, and so with what its splitters prefer;
-- where none are found there are no priorities
abbrev pub IsLeastPreferred : LayoutRequest → Smallest → List Priority → Type 0
IsLeastPreferred r (Found earlier grid parts) priorities = LaysPreferring parts.items priorities (request_on r grid)
IsLeastPreferred r (Nowhere earlier) priorities = priorities ≡ []
IsLeastPreferred r (Spent earlier grid log) priorities = priorities ≡ []

-- what is answered to what a search for the least grid comes to: it, with priorities of the parts that are found, and the
-- first grid, where one is named
abbrev pub IsLeastTold : Option Rect → LayoutRequest → Smallest → Reply → Type 0
IsLeastTold first r found reply =
    (priorities : Vec Priority) × IsLeastPreferred r found priorities.items × IsLeastFoundAgain found priorities.items × (reply ≡ Ok (answer.Least first found priorities))

-- what is answered to a request on the greatest grid: the least grid with a layout, and parts on it whose blueprint is
-- read as these parts; or that none has one; or the grid at which the log is used up; with a log for each grid before
-- it; of the grids that come before the first, where one is named, nothing, and the answer names that one
abbrev pub IsSearched : Option Rect → ℕ → LayoutRequest → Reply → Type 0
IsSearched first learnt r reply = (found : Smallest) × IsSmallest first r learnt found × IsLeastTold first r found reply

-- what `smallest` answers to bytes: what is answered to the request that they are, or the first refusal, of which the
-- last is that it has no formula on the greatest grid
abbrev pub IsSearchedFrom : Option Rect → Rect → Option Tier → ℕ → List ℕ → Reply → Type 0
IsSearchedFrom first most tier learnt bytes = InTurn (IsSidedRequest most tier bytes) design_told (UnlessLarge (IsSearched first learnt))
