-- What reading a text tells of each longer text that begins with it.
use Rattle.std.specs.Prelude.{◌≢◌, ℕ, List, ◌++◌, length, Ok, Err}
use Rattle.bt_json.specs.Json.{Json}
use Rattle.bt_json.specs.Answers.{EndsBefore, IsRead}
use Rattle.bt_json.specs.declared.fault.JsonFault.{JsonFault}
use Rattle.bt_json.specs.declared.fault.JsonFault.TheVariants as faults

-- the value ends whatever follows it, as each but a number does
abbrev pub EndsAnyhow : Json → Type 0
EndsAnyhow v = (rest : List ℕ) → EndsBefore v rest

-- such a value at the front of a text stands at the front of each longer text
abbrev pub ValueStays : Type 0
ValueStays = (bytes more : List ℕ) (v : Json) (after : ℕ) → EndsAnyhow v → IsRead bytes (Ok (v, after)) → IsRead (bytes ++ more) (Ok (v, after))

-- the fault of a text is that of each longer text, but where it is that the text ends there
abbrev pub FaultStays : Type 0
FaultStays = (bytes more : List ℕ) (fault : JsonFault) → fault ≢ faults.Json (length bytes) → IsRead bytes (Err fault) → IsRead (bytes ++ more) (Err fault)
