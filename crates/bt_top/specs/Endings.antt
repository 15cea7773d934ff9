-- How the program ends: what it answers, and what it read and wrote.
use Rattle.std.specs.Prelude.{◌≡◌, ℕ, List, ◌⊎◌, Result, Ok, Err}
use Rattle.bt_io.specs.Bytes.{WritesText}
use Rattle.bt_io.specs.Passages.{Passage}
use Rattle.bt_io.specs.declared.fault.ReadAll.TheVariants.{ReadFault, TooLong, Memory}
use Rattle.bt_io.specs.declared.fault.WriteFault.{WriteFault}
use Rattle.bt_words.specs.declared.command.Command.{Command}
use Rattle.bt_words.specs.Commands.{IsCommand, IsUsage}
use Rattle.bt_print.specs.declared.answer.Answer.{Answer}
use Rattle.bt_print.specs.declared.answer.Answer.TheVariants as answer
use Rattle.bt_top.specs.declared.program.TheConstants.{READ_FAULT, WRITE_FAULT, NO_MEMORY}
use Rattle.bt_print.specs.Answers.{status_of, text_of}
use Rattle.bt_top.specs.Inputs.{IsUntouched, IsInput, ReadsInput}
use Rattle.bt_top.specs.Answering.{IsRightTo, IsOnly}

-- a right answer to the words and to what was read of the source
pub data IsRight (words : List (List ℕ)) (source : Passage) (a : Answer) : Type 0 where
  -- the words are no command, and nothing was read
  no_command : IsUsage words → IsUntouched source → a ≡ answer.Usage → IsRight words source a
  -- the source has more bytes than the command reads
  too_long : (command : Command) → IsCommand command words → ReadsInput command source (Err TooLong) → a ≡ answer.TooLong
      → IsRight words source a
  -- the input was read to its end, and this is a right answer to its bytes
  to_bytes : (command : Command) (bytes : List ℕ) → IsCommand command words → ReadsInput command source (Ok bytes)
      → IsRightTo command bytes (Ok a) → IsRight words source a

-- the status after a text was written: the one that is due, or that of a fault of the sink
abbrev pub status_after : ℕ → Result (Unit {0}) WriteFault → ℕ
status_after due (Ok done) = due
status_after due (Err fault) = WRITE_FAULT

-- the sink was given the answer's whole text, or at a fault of the sink a proper prefix of it, and the status says so
abbrev pub IsTold : Answer → Passage → ℕ → Type 0
IsTold a sink status =
    (written : Result (Unit {0}) WriteFault) × WritesText sink (text_of a) written × (status ≡ status_after (status_of a) written)

-- how the program may end
pub data IsEnding (words : List (List ℕ)) (source sink : Passage) (status : ℕ) : Type 0 where
  -- a right answer is told
  told : (a : Answer) → IsRight words source a → IsTold a sink status → IsEnding words source sink status
  -- the source failed, before more was read than the command reads, and nothing is written
  read_fault : (command : Command) → IsCommand command words → ReadsInput command source (Err ReadFault)
      → IsUntouched sink → status ≡ READ_FAULT → IsEnding words source sink status
  -- memory ran out, before more was read than the command reads, and nothing is written
  no_memory : (command : Command) → IsCommand command words → ReadsInput command source (Err Memory)
      → IsUntouched sink → status ≡ NO_MEMORY → IsEnding words source sink status

-- how the program ends: in one of these ways; and where the source tells the command's input, within its limit, a right
-- answer to that is told, and where there is one right answer that one, but where the source fails or memory runs out
pub record Ends (words : List (List ℕ)) (source sink : Passage) (status : ℕ) : Type 0 where
  pub ending : IsEnding words source sink status
  pub complete : (command : Command) (bytes : List ℕ) → IsCommand command words → IsInput command source bytes
      → ((a : Answer) × IsRightTo command bytes (Ok a) × IsTold a sink status) ⊎ (status ≡ READ_FAULT) ⊎ (status ≡ NO_MEMORY)
  pub only : (command : Command) (bytes : List ℕ) (a : Answer) → IsCommand command words → IsInput command source bytes → IsOnly command a
      → IsRightTo command bytes (Ok a) → IsTold a sink status ⊎ (status ≡ READ_FAULT) ⊎ (status ≡ NO_MEMORY)
