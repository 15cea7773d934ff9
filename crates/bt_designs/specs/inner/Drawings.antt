-- Blueprints: their layouts, and those of parts that are placed.
use Rattle.std.specs.Prelude.{◌≡◌, ℕ, List, Option, Result, Ok, Err}
use Rattle.bt_parts.specs.declared.hand.Priority.{Priority}
use Rattle.bt_parts.specs.declared.part.Part.{Part}
use Rattle.bt_parts.specs.declared.part.Tier.{Tier}
use Rattle.bt_designs.specs.declared.design.Laid.{Laid}
use Rattle.bt_designs.specs.declared.drawing.Drawing.{Drawing}
use Rattle.bt_designs.specs.declared.fault.DesignFault.{DesignFault}
use Rattle.bt_designs.specs.Designs.{IsPlacedWith}
use Rattle.bt_designs.specs.Steps.{InTurn}

-- the layout of a blueprint
abbrev pub laid_of : Drawing → Laid
laid_of drawing = drawing.laid

-- the same, and how many bytes the blueprint has
abbrev pub laid_and_used : Drawing × ℕ → Laid × ℕ
laid_and_used found = (found.0.laid, found.1)

-- what comes of parts that are placed, with their priorities: the network of their layout with this tier, or the first
-- refusal
abbrev pub IsTieredOn : List Part → List Priority → Option Tier → Result Laid DesignFault → Type 0
IsTieredOn parts priorities tier = InTurn (IsPlacedWith priorities parts) Err (λ net answer. answer ≡ Ok (record { net = net; tier = tier }))
