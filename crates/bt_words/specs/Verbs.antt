-- The words for commands.
use Rattle.std.specs.Prelude.{ℕ, List, codes}
use Rattle.bt_words.specs.declared.command.Command.{Command}
use Rattle.bt_words.specs.declared.command.Command.TheVariants as command
use Rattle.bt_words.specs.declared.verb.Verb.{Verb}
use Rattle.bt_words.specs.declared.verb.Verb.TheVariants.{FlowCheck, Recover, Check, Decide, Make, Layout, CheckLayout, Smallest, Formula, Same, CheckSame, Build}

-- the word for a command
abbrev pub verb_name : Verb → List ℕ
verb_name FlowCheck = codes "flow-check"
verb_name Recover = codes "recover"
verb_name Check = codes "check"
verb_name Decide = codes "decide"
verb_name Make = codes "make"
verb_name Layout = codes "layout"
verb_name CheckLayout = codes "check-layout"
verb_name Smallest = codes "smallest"
verb_name Formula = codes "formula"
verb_name Same = codes "same"
verb_name CheckSame = codes "check-same"
verb_name Build = codes "build"

-- which command it is
abbrev pub verb_of : Command → Verb
verb_of (command.FlowCheck p) = FlowCheck
verb_of command.Recover = Recover
verb_of (command.Check p) = Check
verb_of (command.Decide p limits) = Decide
verb_of (command.Make family order limits) = Make
verb_of (command.Layout grid tier learnt) = Layout
verb_of (command.CheckLayout grid tier) = CheckLayout
verb_of (command.Smallest first most tier learnt) = Smallest
verb_of (command.FindSmall most tier sides learnt) = Smallest
verb_of (command.FlowFormula p) = Formula
verb_of (command.PlaceFormula grid tier) = Formula
verb_of (command.Same limits) = Same
verb_of command.CheckSame = CheckSame
verb_of (command.Build wish inputs outputs limits text) = Build
