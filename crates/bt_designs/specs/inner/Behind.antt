-- What is refused behind a design.
use Rattle.std.specs.Prelude.{ℕ, ◌-◌, ◌<◌, List, [], length, drop, Option, Some, None}
use Rattle.bt_text.specs.Blanks.{SkipsBlanks}
use Rattle.bt_designs.specs.declared.refusal.Refusal.{Refusal}
use Rattle.bt_designs.specs.Alone.{IsRefusedAt}

-- what is refused behind so many bytes: nothing where only blanks follow, and else the first byte that is none
abbrev pub IsBehind : List ℕ → ℕ → Option Refusal → Type 0
IsBehind bytes used None = SkipsBlanks (drop used bytes) []
IsBehind bytes used (Some r) = (text : List ℕ) × SkipsBlanks (drop used bytes) text × (0 < length text) × IsRefusedAt bytes (length bytes - length text) r
