-- What reading on from a source does to the bytes that were read so far.
use Rattle.std.specs.Prelude.{ℕ, ◌≡◌, ◌+◌, ◌<◌, ◌≤◌, Bool, true, false, List, [], ◌++◌, length, Result, Ok, Err}
use Rattle.std.specs.Io.KnownBytes.{Consumes, IsAtEnd}
use Rattle.bt_text.specs.Answers.{seen}
use Rattle.bt_io.specs.Bytes.{ReadsAll}
use Rattle.bt_io.specs.Passages.{Passage, HasFault}
use Rattle.bt_io.specs.declared.fault.ReadAll.{ReadAll}
use Rattle.bt_io.specs.declared.fault.ReadAll.TheVariants.{ReadFault, TooLong, Memory}

-- nothing was taken of the source
abbrev pub TakesNothing : Passage → Type 0
TakesNothing source = Consumes source.before source.after []

-- a piece, which isn't empty, was taken of the source and stands behind the bytes so far
pub record TakesPiece (source : Passage) (before after : List ℕ) : Type 0 where
  pub piece : List ℕ
  pub taken : Consumes source.before source.after piece
  pub behind : after ≡ before ++ piece
  pub some : 0 < length piece

-- what one read did: a piece stands behind the bytes so far, which are within the limit; or the source had ended; or it
-- failed, or memory ran out, and nothing was taken and the bytes stayed; or with this piece one byte past the limit was
-- taken
abbrev pub IsReadOn : ℕ → Passage → List ℕ → List ℕ → Result Bool ReadAll → Type 0
IsReadOn limit source before after (Ok true) = TakesPiece source before after × (length after ≤ limit)
IsReadOn limit source before after (Ok false) = TakesNothing source × IsAtEnd source.after × (after ≡ before)
IsReadOn limit source before after (Err ReadFault) = HasFault source × TakesNothing source × (after ≡ before)
IsReadOn limit source before after (Err TooLong) = TakesPiece source before after × (length after ≡ limit + 1)
IsReadOn limit source before after (Err Memory) = TakesNothing source × (after ≡ before)

-- a source was read on, and its count of faults has not fallen
pub record ReadsOn (limit : ℕ) (source : Passage) (before after : List ℕ) (result : Result Bool ReadAll) : Type 0 where
  pub read : IsReadOn limit source before after result
  pub count : source.faults ≤ source.faults_after

-- a source was read within a limit, and what was read of it is not told
abbrev pub Drains : ℕ → Passage → Result (Unit {0}) ReadAll → Type 0
Drains limit source result = (bytes : List ℕ) × ReadsAll limit source (seen (λ done. bytes) result)
