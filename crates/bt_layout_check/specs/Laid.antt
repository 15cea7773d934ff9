-- The layouts that a request is asking for, by given names.
use Rattle.std.specs.Prelude.{List, All}
use Rattle.bt_parts.specs.declared.hand.Priority.{Priority}
use Rattle.bt_parts.specs.declared.part.Part.{Part}
use Rattle.bt_model.specs.Laying.{Fits, KeepsDemand}
use Rattle.bt_model.specs.Requests.{LayoutRequest}
use Rattle.bt_model.specs.Shown.{Naming, Shows}
use Rattle.bt_model.specs.Preferring.{ShowsPreferring}
use Rattle.bt_layout_check.specs.declared.names.Names.{Names}

-- which part bears each number
abbrev pub naming_of : Names → Naming
naming_of names = record { splitters = names.splitters.items; inputs = names.inputs.items; outputs = names.outputs.items }

-- the parts fit the request, and show its network under this naming, by which every pin and every side is kept
pub record LaysBy (parts : List Part) (naming : Naming) (request : LayoutRequest) : Type 0 where
  pub fits : Fits parts request
  pub shows : Shows parts request.net naming
  pub demands : All (KeepsDemand parts request naming) request.demands

-- the same with what splitters prefer: the layout with these priorities shows the network under this naming with that
pub record LaysPreferringBy (parts : List Part) (priorities : List Priority) (naming : Naming) (request : LayoutRequest) : Type 0 where
  pub fits : Fits parts request
  pub shows : ShowsPreferring parts priorities request.net naming
  pub demands : All (KeepsDemand parts request naming) request.demands
