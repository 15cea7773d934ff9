-- Which sources are done, on the way over the inputs and then over the splitters.
use Rattle.std.specs.Prelude.{◌≡◌, ℕ, ◌<◌, List, slice_get, Some, ◌⊎◌, ⊤}
use Rattle.bt_parts.specs.declared.part.Cell.{Cell}
use Rattle.bt_model.specs.Chains.{Source, begins, leaves}

-- the first k inputs are done
abbrev pub InputsDone : List ℕ → ℕ → Source → Type 0
InputsDone inputs k (begins i cell) = (j : ℕ) × (j < k) × (slice_get inputs j ≡ Some i)
InputsDone inputs k (leaves s half) = ⊥

-- the inputs and the first k splitters are done
abbrev pub SplittersDone : List ℕ → ℕ → Source → Type 0
SplittersDone splitters k (begins i cell) = ⊤
SplittersDone splitters k (leaves s half) = (j : ℕ) × (j < k) × (slice_get splitters j ≡ Some s)

-- and the lesser half of the next splitter
abbrev pub HalfDone : List ℕ → ℕ → ℕ → Cell → Source → Type 0
HalfDone splitters k s first (begins i cell) = ⊤
HalfDone splitters k s first (leaves t half) = ((j : ℕ) × (j < k) × (slice_get splitters j ≡ Some t)) ⊎ ((t ≡ s) × (half ≡ first))
