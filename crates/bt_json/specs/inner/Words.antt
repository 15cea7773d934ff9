-- The words null, true and false.
use Rattle.std.specs.Prelude.{ℕ, List, Result}
use Rattle.bt_json.specs.Json.{Json}
use Rattle.bt_json.specs.inner.Reading.{Frame, in_word, deliver}
use Rattle.bt_json.specs.inner.Running.{ReadsOn}
use Rattle.bt_json.specs.declared.fault.JsonFault.{JsonFault}

-- the rest of a word, whatever value it writes
abbrev pub SkipsWord : List ℕ → ℕ → List ℕ → Result ℕ JsonFault → Type 0
SkipsWord bytes start letters = ReadsOn {K = Json × List Frame} bytes start (λ word. in_word letters word.0 word.1) (λ at. at) (λ at word. deliver word.0 word.1 at)
