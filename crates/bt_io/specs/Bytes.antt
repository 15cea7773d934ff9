-- What calls do to the bytes that a source has left and that a sink holds.
use Rattle.std.specs.Prelude.{ℕ, ◌≡◌, ◌+◌, ◌<◌, ◌≤◌, List, length, take, Result, Ok, Err, IfOk, OnOk, OnErr}
use denote.Ref.{Bor}
use Rattle.std.specs.List.{flat_map}
use Rattle.std.specs.Io.KnownBytes.{Appends, Consumes, IsAtEnd}
use Rattle.bt_io.specs.Passages.{Passage, HasFault}
use Rattle.bt_io.specs.declared.fault.ReadAll.{ReadAll}
use Rattle.bt_io.specs.declared.fault.ReadAll.TheVariants.{ReadFault, TooLong, Memory}

-- these bytes are all that the source had left, and nothing is left
abbrev pub IsAllOf : Passage → List ℕ → Type 0
IsAllOf source bytes = Consumes source.before source.after bytes × IsAtEnd source.after

-- so many bytes were taken of the source
abbrev pub Takes : Passage → ℕ → Type 0
Takes source n = (bytes : List ℕ) × Consumes source.before source.after bytes × (length bytes ≡ n)

-- at most so many bytes were taken of the source
abbrev pub TakesAtMost : Passage → ℕ → Type 0
TakesAtMost source n = (bytes : List ℕ) × Consumes source.before source.after bytes × (length bytes ≤ n)

-- what was read of a source within a limit: all that was left; or no more than the limit where the source failed, which
-- its count of faults shows, or memory ran out; or one byte past the limit where it is too long
abbrev pub IsReadWithin : ℕ → Passage → Result (List ℕ) ReadAll → Type 0
IsReadWithin limit source (Ok bytes) = IsAllOf source bytes × (length bytes ≤ limit)
IsReadWithin limit source (Err ReadFault) = HasFault source × TakesAtMost source limit
IsReadWithin limit source (Err TooLong) = Takes source (limit + 1)
IsReadWithin limit source (Err Memory) = TakesAtMost source limit

-- a source was read within a limit, and its count of faults has not fallen
pub record ReadsAll (limit : ℕ) (source : Passage) (result : Result (List ℕ) ReadAll) : Type 0 where
  pub read : IsReadWithin limit source result
  pub count : source.faults ≤ source.faults_after

-- a write takes a byte at least, where there is one
abbrev pub TakesSome : {E : Type 0} → Result ℕ E → List ℕ → Type 0
TakesSome r piece = IfOk r (λ n. 0 < length piece → 0 < n)

-- a proper prefix of the text was appended to the sink
abbrev pub AppendsPart : Passage → List ℕ → Type 0
AppendsPart sink text = (n : ℕ) × (n < length text) × Appends sink.before sink.after (take n text)

-- pieces, one behind the other
abbrev pub joined : List (Bor (List ℕ)) → List ℕ
joined pieces = flat_map (λ piece. piece.now) pieces

-- the whole text was appended, or where that failed a proper prefix of it, and then the sink's count of faults rose;
-- the count has not fallen
pub record WritesText {T E : Type 0} (sink : Passage) (text : List ℕ) (result : Result T E) : Type 0 where
  pub whole : OnOk result (Appends sink.before sink.after text)
  pub part : OnErr result (AppendsPart sink text)
  pub fault : OnErr result (HasFault sink)
  pub count : sink.faults ≤ sink.faults_after
