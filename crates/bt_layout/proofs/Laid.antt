-- What the test of parts by their names says.
use Rattle.std.proofs.Common.{List}
use Rattle.bt_parts.specs.declared.part.Part.{Part}
use Rattle.bt_model.specs.Laying.{Lays}
use Rattle.bt_model.specs.Requests.{LayoutRequest}
use Rattle.bt_model.specs.Shown.{Naming}
use Rattle.bt_layout_check.specs.Laid.{LaysBy}

-- parts that lay a request by some names lay it
pub laid_by : (parts : List Part) (naming : Naming) (request : LayoutRequest) → LaysBy parts naming request → Lays parts request
laid_by parts naming request lays = record { fits = lays.fits; naming = naming; shows = lays.shows; demands = lays.demands }
