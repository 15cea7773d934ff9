-- What layouts of a request and assignments of its formula have to do with one another.
use Rattle.std.specs.Prelude.{ℕ, Bool, List}
use Rattle.bt_parts.specs.declared.part.Part.{Part}
use Rattle.bt_frac.specs.Ratio.{Ratio}
use Rattle.bt_cnf.specs.Meeting.{Meets}
use Rattle.bt_model.specs.Laying.{Lays}
use Rattle.bt_model.specs.Requests.{LayoutRequest, IsRequest}
use Rattle.bt_facts.specs.declared.fact.Fact.{Fact}
use Rattle.bt_rules.specs.Laws.{KeepsRules}
use Rattle.bt_place.specs.Numbering.{variable_of}
use Rattle.bt_place.specs.PlaceFormula.{sizes_of, place_formula}
use Rattle.bt_place.specs.Solutions.{IsSolution}

-- the facts as an assignment reads them
abbrev pub read_by : LayoutRequest → (ℕ → Bool) → Fact → Bool
read_by r assignment fact = assignment (variable_of (sizes_of r) fact)

-- an assignment that meets the formula of a request keeps each of its rules
abbrev pub MeetingKeeps : Type 0
MeetingKeeps = (r : LayoutRequest) (assignment : ℕ → Bool) (values : ℕ → Ratio) → Meets (place_formula r) assignment values
    → KeepsRules r (read_by r assignment)

-- some assignment meets the formula of a request, whatever the values
abbrev pub CanBeMet : LayoutRequest → Type 0
CanBeMet r = (assignment : ℕ → Bool) × ((values : ℕ → Ratio) → Meets (place_formula r) assignment values)

-- each layout that lays a request gives an assignment that meets the request's formula
abbrev pub LayingMeets : Type 0
LayingMeets = (r : LayoutRequest) (parts : List Part) → IsRequest r → Lays parts r → CanBeMet r

-- where no layout lays a request, no assignment meets its formula: one that can be met has a layout
abbrev pub UnlaidIsUnmet : Type 0
UnlaidIsUnmet = (r : LayoutRequest) (assignment : List Bool) → IsRequest r → ((parts : List Part) → Lays parts r → ⊥) → IsSolution r assignment → ⊥
