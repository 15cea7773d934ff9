-- What layouts of a request and readings that keep its rules have to do with one another.
use Rattle.std.specs.Prelude.{Bool, List}
use Rattle.std.specs.List.{AllByRecursion}
use Rattle.bt_parts.specs.declared.part.Part.{Part}
use Rattle.bt_model.specs.Laying.{Lays}
use Rattle.bt_model.specs.Requests.{LayoutRequest, IsRequest}
use Rattle.bt_model.specs.Shown.{ListsEach}
use Rattle.bt_facts.specs.declared.fact.Fact.{Fact}
use Rattle.bt_rules.specs.Kept.{IsKeptPart}
use Rattle.bt_rules.specs.PlaceRules.{rules_of}
use Rattle.bt_facts.specs.Rules.{Keeps}
use Rattle.bt_rules.specs.Within.{HasWithin}

-- the reading of the facts keeps each rule of the request
abbrev pub KeepsRules : LayoutRequest → (Fact → Bool) → Type 0
KeepsRules r reading = AllByRecursion (Keeps reading) (rules_of r)

-- each layout that lays a request gives a reading of the facts that keeps the request's rules
abbrev pub LayingKeeps : Type 0
LayingKeeps = (r : LayoutRequest) (parts : List Part) → IsRequest r → Lays parts r → (reading : Fact → Bool) × KeepsRules r reading

-- the parts that are kept of a reading that keeps a request's rules lay the request
abbrev pub KeepingLays : Type 0
KeepingLays = (r : LayoutRequest) (reading : Fact → Bool) (parts : List Part) → IsRequest r → KeepsRules r reading
    → ListsEach (IsKeptPart r reading) parts → Lays parts r

-- the rules of a request speak of what it has
abbrev pub RulesAreWithin : Type 0
RulesAreWithin = (r : LayoutRequest) → IsRequest r → AllByRecursion (HasWithin r) (rules_of r)
