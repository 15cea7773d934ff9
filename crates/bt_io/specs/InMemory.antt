-- What a source and a sink in memory show.
use Rattle.std.specs.Prelude.{ℕ, ◌≡◌, ◌-◌, ◌<◌, ◌⊎◌, List, [], ◌++◌, length, min, take, drop, Contains, Result, Ok, Err}
use Rattle.std.specs.declared.alloc.AllocError.{AllocError}
use Rattle.bt_io.specs.Causes.{next_count}

-- the bytes that are left, the calls that fail, the most that a call gives, and how many calls and faults there were
pub record SourceState : Type 0 where
  pub left : List ℕ
  pub fails : List ℕ
  pub most : ℕ
  pub calls : ℕ
  pub faults : ℕ

-- a source with these bytes left, and so on
abbrev pub source_state : List ℕ → List ℕ → ℕ → ℕ → ℕ → SourceState
source_state left fails most calls faults = record { left = left; fails = fails; most = most; calls = calls; faults = faults }

-- how many bytes a call with a buffer of this length gives: all that it may
abbrev pub count_given : SourceState → ℕ → ℕ
count_given source room = min (min source.most room) (length source.left)

-- the source after a call that gave so many bytes
abbrev pub after_giving : SourceState → ℕ → SourceState
after_giving source n = record source { left = drop n source.left; calls = next_count source.calls }

-- the source after a call that failed
abbrev pub after_failed_read : SourceState → SourceState
after_failed_read source = record source { calls = next_count source.calls; faults = next_count source.faults }

-- the bytes that are held and how many may be, the calls that fail, the most that a call takes, and how many calls and
-- faults there were
pub record SinkState : Type 0 where
  pub held : List ℕ
  pub room : ℕ
  pub fails : List ℕ
  pub most : ℕ
  pub calls : ℕ
  pub faults : ℕ

-- a sink with these bytes held, and so on
abbrev pub sink_state : List ℕ → ℕ → List ℕ → ℕ → ℕ → ℕ → SinkState
sink_state held room fails most calls faults = record { held = held; room = room; fails = fails; most = most; calls = calls; faults = faults }

-- a sink that was made holds nothing, has this room and these calls that fail, and was not called yet
abbrev pub IsEmptySink : ℕ → List ℕ → ℕ → Result SinkState AllocError → Type 0
IsEmptySink room fails most (Ok sink) = sink ≡ sink_state [] room fails most 0 0
IsEmptySink room fails most (Err e) = ⊥

-- the next call fails: it is a listed one, or the piece is not empty and finds no room
abbrev pub RefusesPiece : SinkState → List ℕ → Type 0
RefusesPiece sink piece = Contains sink.fails (next_count sink.calls) ⊎ ((0 < length piece) × (length sink.held ≡ sink.room))

-- how many bytes of a piece a call takes: all that it may
abbrev pub count_taken : SinkState → List ℕ → ℕ
count_taken sink piece = min (min sink.most (length piece)) (sink.room - length sink.held)

-- the sink after a call that took so many bytes of the piece
abbrev pub after_taking : SinkState → List ℕ → ℕ → SinkState
after_taking sink piece n = record sink { held = sink.held ++ take n piece; calls = next_count sink.calls }

-- the sink after a call that failed
abbrev pub after_failed_write : SinkState → SinkState
after_failed_write sink = record sink { calls = next_count sink.calls; faults = next_count sink.faults }
