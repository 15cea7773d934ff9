-- What logs that refute a placement formula show, and what is written of layouts.
use Rattle.std.specs.Prelude.{◌<◌, ◌≤◌, ◌^◌, List, length}
use Rattle.bt_parts.specs.declared.hand.Priority.{Priority}
use Rattle.bt_parts.specs.declared.part.Part.{Part}
use Rattle.bt_entities.specs.declared.blueprint.TheConstants.{MOST_ENTITIES}
use Rattle.bt_log.specs.Laws.{IsUnmet}
use Rattle.bt_log.specs.Logs.{Step}
use Rattle.bt_log.specs.LogText.{log_text}
use Rattle.bt_log.specs.Refuting.{Refutes}
use Rattle.bt_cert.specs.Certificates.{IsCertificate}
use Rattle.bt_model.specs.Laying.{Lays}
use Rattle.bt_model.specs.Requests.{LayoutRequest, IsRequest}
use Rattle.bt_entities.specs.ReadBack.{IsReadBack, SplittersPrefer}
use Rattle.bt_place.specs.PlaceFormula.{place_formula}
use Rattle.bt_theory.specs.Outcomes.{IsRefutation}
use Rattle.bt_layout.specs.Layouts.{HasNoLayout}

-- where nothing meets the placement formula of a request, no parts lay the request
abbrev pub UnmetHasNoLayout : Type 0
UnmetHasNoLayout = (r : LayoutRequest) → IsRequest r → IsUnmet (place_formula r) → HasNoLayout r

-- so none do where a log refutes it
abbrev pub RefutedHasNoLayout : Type 0
RefutedHasNoLayout = (r : LayoutRequest) (steps : List Step) → IsRequest r → Refutes (place_formula r) steps → HasNoLayout r

-- what is printed of a log that soundly refutes a placement formula is a certificate, where it has fewer than 10 ^ 17
-- steps
abbrev pub NowhereIsCertificate : Type 0
NowhereIsCertificate = (r : LayoutRequest) (steps : List Step) → IsRequest r → IsRefutation (place_formula r) steps → length steps < 10 ^ 17
    → IsCertificate (place_formula r) (log_text steps)

-- what is written of parts that lay a request is read as the same parts with the same priorities, where they are no
-- more than a blueprint may have, and splitters alone prefer anything
abbrev pub LaidIsReadBack : Type 0
LaidIsReadBack = (r : LayoutRequest) (parts : List Part) (priorities : List Priority) → IsRequest r → length parts ≤ MOST_ENTITIES
    → Lays parts r → SplittersPrefer parts priorities → IsReadBack parts priorities
