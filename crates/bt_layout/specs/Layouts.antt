-- What is right to say of a request for which a layout is searched.
use Rattle.std.specs.Prelude.{ℕ, ◌≤◌, List, length, AllPairs}
use Rattle.bt_parts.specs.declared.part.Part.{Part}
use Rattle.bt_entities.specs.declared.blueprint.TheConstants.{MOST_ENTITIES}
use Rattle.bt_model.specs.Laying.{Lays}
use Rattle.bt_model.specs.Requests.{LayoutRequest}
use Rattle.bt_place.specs.PlaceFormula.{HasFormula, place_formula}
use Rattle.bt_place.specs.Solutions.{ComesAbove}
use Rattle.bt_theory.specs.Outcomes.{IsRefutation, IsUsedUp}
use Rattle.bt_log.specs.Trimming.{IsTightOver}
use Rattle.bt_grids.specs.declared.outcome.Layout.{Layout}
use Rattle.bt_grids.specs.declared.outcome.Layout.TheVariants.{Found, Nowhere, Spent}

-- no parts lay the request
abbrev pub HasNoLayout : LayoutRequest → Type 0
HasNoLayout r = (parts : List Part) → Lays parts r → ⊥

-- what is right to say: the parts lay the request, in ascending order of y and then x, and are no more than a blueprint
-- may have; or the request has a formula and no parts lay it, and the log, which has at most so many steps, each but
-- the last needed, refutes the formula; or it has a formula, of which the log has so many steps, and one more is needed
abbrev pub IsLayout : LayoutRequest → ℕ → Layout → Type 0
IsLayout r learnt (Found parts) = Lays parts.items r × AllPairs ComesAbove parts.items × (length parts.items ≤ MOST_ENTITIES)
IsLayout r learnt (Nowhere log) =
    HasFormula r × HasNoLayout r × IsRefutation (place_formula r) log.steps × (length log.steps ≤ learnt) × IsTightOver (place_formula r) log
IsLayout r learnt (Spent log) = HasFormula r × IsUsedUp (place_formula r) learnt log.steps
