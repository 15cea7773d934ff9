-- Requests for a blueprint, whose ends may be to stand at the sides at which they stand in it, and its own parts.
use Rattle.std.specs.Prelude.{ℕ, List, Option, Result, Ok, Err}
use Rattle.bt_json.specs.Json.{Json}
use Rattle.bt_json.specs.Answers.{IsRead}
use Rattle.bt_entities.specs.Answers.{IsPrioritisedOf}
use Rattle.bt_parts.specs.declared.hand.Priority.{Priority}
use Rattle.bt_parts.specs.declared.part.Part.{Part}
use Rattle.bt_parts.specs.declared.part.Rect.{Rect}
use Rattle.bt_parts.specs.declared.part.Tier.{Tier}
use Rattle.bt_net.specs.declared.network.Demand.{Demand}
use Rattle.bt_model.specs.Requests.{LayoutRequest}
use Rattle.bt_recover.specs.Sides.{AreEndSides}
use Rattle.bt_designs.specs.declared.design.Laid.{Laid}
use Rattle.bt_designs.specs.declared.fault.DesignFault.{DesignFault}
use Rattle.bt_designs.specs.Alone.{IsAlone}
use Rattle.bt_designs.specs.Designs.{IsJsonPreferring}
use Rattle.bt_designs.specs.Refusals.{layout_told}
use Rattle.bt_designs.specs.Requested.{IsRequestFor, pinned_laid}
use Rattle.bt_designs.specs.Steps.{InTurn}

-- the JSON value at the front of the bytes is a blueprint of these parts, whatever their priorities
abbrev pub AreDrawn : List ℕ → List Part → Type 0
AreDrawn bytes parts = (read : Json × ℕ) × IsRead bytes (Ok read) × (priorities : List Priority) × IsPrioritisedOf read.0 (Ok (parts, priorities))

-- what comes of bytes that are to be a blueprint alone: the first refusal, of the blueprint, then of what follows it,
-- then of the request; or the request
abbrev pub IsBlueprintRequest : Rect → Option Tier → List ℕ → Result LayoutRequest DesignFault → Type 0
IsBlueprintRequest rect tier bytes = InTurn (IsAlone IsJsonPreferring bytes) Err (λ laid. IsRequestFor rect tier (pinned_laid laid))

-- what comes of the layout of these parts: the request for it in the rectangle, with its ends at the sides across which
-- they look
abbrev pub IsKeptFor : Rect → Option Tier → List Part → Laid → Result LayoutRequest DesignFault → Type 0
IsKeptFor rect tier parts laid =
    InTurn (AreEndSides parts) (λ fault. Err (layout_told fault)) (λ (stays : List Demand). IsRequestFor rect tier (record (pinned_laid laid) { demands = stays }))

-- what comes of bytes that are to be a blueprint alone, whose ends are to stand at the sides at which they stand in it:
-- the first refusal, of the blueprint, then of what follows it, then of the request; or the request
abbrev pub IsKeptRequest : Rect → Option Tier → List ℕ → Result LayoutRequest DesignFault → Type 0
IsKeptRequest rect tier bytes =
    InTurn (IsAlone IsJsonPreferring bytes) Err (λ laid answer. (parts : List Part) × AreDrawn bytes parts × IsKeptFor rect tier parts laid answer)
