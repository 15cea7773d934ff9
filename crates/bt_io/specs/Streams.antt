-- What a reader or a writer of std shows beside its count of faults.
use Rattle.std.specs.Prelude.{ℕ, List, Result}
use Rattle.std.specs.declared.option.Option.{Option}
use Rattle.std.specs.Io.KnownBytes.{ReadConsumes, WriteAppends}

-- a stream, and how often it failed
pub record Counted (T : Type 0) : Type 0 where
  pub stream : T
  pub faults : ℕ

-- what a read did to the bytes that a stream has left, where `left` tells them
abbrev pub StreamConsumes : {T E : Type 0} → (T → Option (List ℕ)) → T → T → Result ℕ E → List ℕ → Type 0
StreamConsumes left old new result buf = ReadConsumes (left old) (left new) result buf

-- what a write did to the bytes that a stream holds, where `held` tells them
abbrev pub StreamAppends : {T E : Type 0} → (T → Option (List ℕ)) → T → T → Result ℕ E → List ℕ → Type 0
StreamAppends held old new result piece = WriteAppends (held old) (held new) result piece
