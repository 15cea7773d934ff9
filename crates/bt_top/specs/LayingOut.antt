-- What `layout` answers.
use Rattle.std.specs.Prelude.{◌≡◌, ◌⊎◌, ℕ, List, Ok, Option}
use Rattle.std.specs.Global.{Vec}
use Rattle.bt_parts.specs.declared.hand.Priority.{Priority}
use Rattle.bt_parts.specs.declared.part.Rect.{Rect}
use Rattle.bt_parts.specs.declared.part.Tier.{Tier}
use Rattle.bt_model.specs.Laying.{LaysPreferring}
use Rattle.bt_model.specs.Requests.{LayoutRequest}
use Rattle.bt_entities.specs.ReadBack.{IsReadBack}
use Rattle.bt_theory.specs.declared.outcome.GaveUp.TheVariants as gave
use Rattle.bt_grids.specs.declared.outcome.Layout.{Layout}
use Rattle.bt_grids.specs.declared.outcome.Layout.TheVariants.{Found, Nowhere, Spent}
use Rattle.bt_layout.specs.Layouts.{IsLayout}
use Rattle.bt_place.specs.PlaceFormula.{HasFormula}
use Rattle.bt_print.specs.declared.answer.Answer.TheVariants as answer
use Rattle.bt_print.specs.Replies.{Reply, design_told}
use Rattle.bt_designs.specs.Requested.{IsLoneRequest}
use Rattle.bt_designs.specs.Steps.{InTurn}

-- what is answered to what a search for a layout comes to: the parts that are found, with priorities by which they lay
-- the request with what its splitters prefer, and whose blueprint is read as these parts with these priorities; or a log
abbrev pub IsLayoutTold : LayoutRequest → Layout → Reply → Type 0
IsLayoutTold r (Found parts) reply =
    (priorities : Vec Priority) × LaysPreferring parts.items priorities.items r × IsReadBack parts.items priorities.items × (reply ≡ Ok (answer.LaidOut parts priorities))
IsLayoutTold r (Nowhere log) reply = reply ≡ Ok (answer.Nowhere log)
IsLayoutTold r (Spent log) reply = reply ≡ Ok (answer.GaveUp (gave.Spent log))

-- what is answered to a request: parts that lay it; or that no parts do, with a log that refutes its placement formula;
-- or that the log is used up; or, where it has no formula, that none was found
abbrev pub IsLaidOut : ℕ → LayoutRequest → Reply → Type 0
IsLaidOut learnt r reply = ((found : Layout) × IsLayout r learnt found × IsLayoutTold r found reply) ⊎ ((HasFormula r → ⊥) × (reply ≡ Ok answer.NotFound))

-- what `layout` answers to bytes: what is answered to the request that they are, or the first refusal
abbrev pub IsLaidOutFrom : Rect → Option Tier → ℕ → List ℕ → Reply → Type 0
IsLaidOutFrom rect tier learnt bytes = InTurn (IsLoneRequest rect tier bytes) design_told (IsLaidOut learnt)
