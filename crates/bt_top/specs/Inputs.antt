-- What a command reads.
use Rattle.std.specs.Prelude.{◌≡◌, ℕ, ◌≤◌, List, [], length, Result, Ok, Err, Some}
use Rattle.bt_io.specs.Bytes.{ReadsAll}
use Rattle.bt_io.specs.Passages.{Passage}
use Rattle.bt_io.specs.declared.fault.ReadAll.{ReadAll}
use Rattle.bt_io.specs.declared.fault.ReadAll.TheVariants.{ReadFault, TooLong, Memory}
use Rattle.bt_words.specs.declared.command.Command.{Command}
use Rattle.bt_words.specs.declared.command.Command.TheVariants.{FlowCheck, Recover, Check, Decide, Make, Layout, CheckLayout, Smallest, FindSmall, FlowFormula, PlaceFormula, Same, CheckSame, Build}
use Rattle.bt_words.specs.Commands.{IsCommand}
use Rattle.bt_designs.specs.declared.held.TheConstants.{MOST_CHECKED}
use Rattle.bt_top.specs.declared.input.TheConstants.{MOST_OF_DESIGN, MOST_OF_TWO}

-- no byte was taken or given, and no fault counted
abbrev pub IsUntouched : Passage → Type 0
IsUntouched p = (p.after ≡ p.before) × (p.faults_after ≡ p.faults)

-- the most bytes that a command reads
abbrev pub input_limit : Command → ℕ
input_limit (FlowCheck p) = MOST_CHECKED
input_limit Recover = MOST_OF_DESIGN
input_limit (Check p) = MOST_CHECKED
input_limit (Decide p limits) = MOST_OF_DESIGN
input_limit (Make family order limits) = 0
input_limit (Layout rect tier learnt) = MOST_OF_DESIGN
input_limit (CheckLayout rect tier) = MOST_CHECKED
input_limit (Smallest first most tier learnt) = MOST_OF_DESIGN
input_limit (FindSmall most tier sides learnt) = MOST_OF_DESIGN
input_limit (FlowFormula p) = MOST_OF_DESIGN
input_limit (PlaceFormula rect tier) = MOST_OF_DESIGN
input_limit (Same limits) = MOST_OF_TWO
input_limit CheckSame = MOST_CHECKED
input_limit (Build wish inputs outputs limits text) = 0

-- `make` and `build` read nothing
abbrev pub ReadsNothing : Command → Type 0
ReadsNothing (Make family order limits) = Unit {0}
ReadsNothing (Build wish inputs outputs limits text) = Unit {0}
ReadsNothing other = ⊥

-- the words are no command that reads its input
abbrev pub IsUnread : List (List ℕ) → Type 0
IsUnread words = (command : Command) → IsCommand command words → ReadsNothing command

-- a source that isn't read gives no bytes, or memory ran out
abbrev pub IsLeftAlone : Passage → Result (List ℕ) ReadAll → Type 0
IsLeftAlone source (Ok bytes) = IsUntouched source × (bytes ≡ [])
IsLeftAlone source (Err ReadFault) = ⊥
IsLeftAlone source (Err TooLong) = ⊥
IsLeftAlone source (Err Memory) = IsUntouched source

-- what a command reads of a source: all that it has, within the command's limit; or nothing
abbrev pub ReadsInput : Command → Passage → Result (List ℕ) ReadAll → Type 0
ReadsInput (Make family order limits) source result = IsLeftAlone source result
ReadsInput (Build wish inputs outputs limits text) source result = IsLeftAlone source result
ReadsInput command source result = ReadsAll (input_limit command) source result

-- the command's whole input, where the source tells it and it is within the command's limit; that of `make` and of
-- `build` is empty
abbrev pub IsInput : Command → Passage → List ℕ → Type 0
IsInput (Make family order limits) source bytes = bytes ≡ []
IsInput (Build wish inputs outputs limits text) source bytes = bytes ≡ []
IsInput command source bytes = (source.before ≡ Some bytes) × (length bytes ≤ input_limit command)
