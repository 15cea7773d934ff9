-- What the parts of the program tell of reading, answering and writing.
use Rattle.std.specs.Prelude.{◌≡◌, ◌≢◌, ℕ, List, ◌⊎◌, Result, Ok, Err}
use Rattle.bt_io.specs.Passages.{Passage}
use Rattle.bt_io.specs.declared.fault.ReadAll.{ReadAll}
use Rattle.bt_print.specs.declared.answer.Answer.{Answer}
use Rattle.bt_print.specs.declared.answer.Answer.TheVariants as answer
use Rattle.bt_words.specs.declared.command.Command.{Command}
use Rattle.bt_words.specs.Commands.{IsCommand}
use Rattle.bt_top.specs.declared.program.TheConstants.{NO_MEMORY}
use Rattle.bt_top.specs.Inputs.{IsUntouched, ReadsInput}
use Rattle.bt_top.specs.Answering.{IsRightTo}
use Rattle.bt_top.specs.Endings.{IsRight, IsTold}

-- a command's right answer to all bytes of the source, or why it has none: the source failed, is too long, or memory
-- ran out
abbrev pub IsAnswered : Command → Passage → Result Answer ReadAll → Type 0
IsAnswered command source (Ok a) =
    (bytes : List ℕ) × ReadsInput command source (Ok bytes) × IsRightTo command bytes (Ok a)
IsAnswered command source (Err fault) = ReadsInput command source (Err fault)

-- the right answer to words and a source, or why a command has none
abbrev pub IsAnsweredTo : List (List ℕ) → Passage → Result Answer ReadAll → Type 0
IsAnsweredTo words source (Ok a) = IsRight words source a
IsAnsweredTo words source (Err fault) = (command : Command) × IsCommand command words × ReadsInput command source (Err fault)

-- the answer is told; or there is no memory for its text, which is not that of one that needs none, and nothing is
-- written
abbrev pub IsToldUnlessMemory : Answer → Passage → ℕ → Type 0
IsToldUnlessMemory a sink status =
    IsTold a sink status ⊎ ((status ≡ NO_MEMORY) × IsUntouched sink × (a ≢ answer.Usage) × (a ≢ answer.TooLong))
