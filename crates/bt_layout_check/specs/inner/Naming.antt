-- The part that bears the name of an end.
use Rattle.std.specs.Prelude.{List, ℕ}
use Rattle.bt_parts.specs.declared.part.Part.{Part}
use Rattle.bt_parts.specs.Layouts.{HasPart}
use Rattle.bt_net.specs.declared.network.End.{End}
use Rattle.bt_model.specs.Laying.{IsNamed}
use Rattle.bt_model.specs.Shown.{Naming}

-- the part bears the name of the end
abbrev pub Bears : List Part → Naming → End → Part → Type 0
Bears parts naming end part = (index : ℕ) × IsNamed naming end index × HasPart parts index part
