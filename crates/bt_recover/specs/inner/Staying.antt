-- The sides of ends while they are listed.
use Rattle.std.specs.Prelude.{◌≡◌, ℕ, List, ◌++◌}
use Rattle.bt_parts.specs.declared.part.Part.{Part}
use Rattle.bt_net.specs.declared.network.Demand.{Demand}
use Rattle.bt_net.specs.declared.network.End.{End}
use Rattle.bt_net.specs.declared.network.End.TheVariants.{Input, Output}
use Rattle.bt_recover.specs.declared.sides.EndKind.{EndKind}
use Rattle.bt_recover.specs.declared.sides.EndKind.TheVariants as kind
use Rattle.bt_recover.specs.Sides.{AreStaysOf}

-- the end of this kind with a number
abbrev pub end_of : EndKind → ℕ → End
end_of kind.Inputs = Input
end_of kind.Outputs = Output

-- what there is of the ends of a kind was put behind the rest
abbrev pub AddsStays : List Part → EndKind → List ℕ → List Demand → List Demand → Type 0
AddsStays parts kind indices old new = (stays : List Demand) × AreStaysOf parts (end_of kind) 0 indices stays × (new ≡ old ++ stays)
