-- Members of a JSON value.
use Rattle.std.specs.Prelude.{◌≡◌, ℕ, pos, List, Some, None}
use Rattle.bt_json.specs.Json.{Json, Number, Members, number, text, object, member_of}
use Rattle.bt_json.specs.Value.{IsTimes}

-- the member of that name is this value
abbrev pub HasMember : Json → List ℕ → Json → Type 0
HasMember v name m = member_of v name ≡ Some m

-- there is no member of that name
abbrev pub Lacks : Json → List ℕ → Type 0
Lacks v name = member_of v name ≡ None

-- the member of that name is this text
abbrev pub HasText : Json → List ℕ → List ℕ → Type 0
HasText v name t = HasMember v name (text t)

-- the member of that name is this number
abbrev pub HasNumber : Json → List ℕ → Number → Type 0
HasNumber v name n = HasMember v name (number n)

-- the value is an object
abbrev pub IsObject : Json → Type 0
IsObject v = (members : Members) × (v ≡ object members)

-- the value is a number whose value is this whole number
abbrev pub IsWhole : Json → ℕ → Type 0
IsWhole v n = (written : Number) × (v ≡ number written) × IsTimes 1 written (pos n)
