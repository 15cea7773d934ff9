-- What a command answers to the bytes of its input.
use Rattle.std.specs.Prelude.{◌≡◌, ℕ, List, Ok}
use Rattle.bt_words.specs.declared.command.Command.{Command}
use Rattle.bt_words.specs.declared.command.Command.TheVariants.{FlowCheck, Recover, Check, Decide, Make, Layout, CheckLayout, Smallest, FindSmall, FlowFormula, PlaceFormula, Same, CheckSame, Build}
use Rattle.bt_words.specs.declared.command.NetworkFamily.TheVariants.{Butterfly, Chain}
use Rattle.bt_print.specs.declared.answer.Answer.{Answer}
use Rattle.bt_print.specs.Answers.{status_of}
use Rattle.bt_top.specs.Building.{IsBuiltFor}
use Rattle.bt_top.specs.Certificates.{IsChecked}
use Rattle.bt_top.specs.Comparing.{IsComparedFrom}
use Rattle.bt_top.specs.Deciding.{IsDecidedFrom}
use Rattle.bt_top.specs.Finding.{IsFoundFrom}
use Rattle.bt_top.specs.Formulas.{IsFlowFormulaFrom, IsPlaceFormulaFrom}
use Rattle.bt_top.specs.LayingOut.{IsLaidOutFrom}
use Rattle.bt_top.specs.Making.{IsMade}
use Rattle.bt_top.specs.NoneCertificates.{IsLayoutChecked}
use Rattle.bt_top.specs.Recovering.{IsRecoveredFrom}
use Rattle.bt_print.specs.Replies.{Reply}
use Rattle.bt_top.specs.SameCertificates.{IsSameCertified}
use Rattle.bt_top.specs.Searching.{IsSearchedFrom}
use Rattle.bt_top.specs.States.{IsFlowChecked}

-- what a command answers to bytes that are its whole input
abbrev pub IsRightTo : Command → List ℕ → Reply → Type 0
IsRightTo (FlowCheck p) bytes = IsFlowChecked p bytes
IsRightTo Recover bytes = IsRecoveredFrom bytes
IsRightTo (Check p) bytes = IsChecked p bytes
IsRightTo (Decide p limits) bytes = IsDecidedFrom p limits bytes
IsRightTo (Make family order limits) bytes = IsMade family order limits
IsRightTo (Layout rect tier learnt) bytes = IsLaidOutFrom rect tier learnt bytes
IsRightTo (CheckLayout rect tier) bytes = IsLayoutChecked rect tier bytes
IsRightTo (Smallest first most tier learnt) bytes = IsSearchedFrom first most tier learnt bytes
IsRightTo (FindSmall most tier sides learnt) bytes = IsFoundFrom most tier sides learnt bytes
IsRightTo (FlowFormula p) bytes = IsFlowFormulaFrom p bytes
IsRightTo (PlaceFormula rect tier) bytes = IsPlaceFormulaFrom rect tier bytes
IsRightTo (Same limits) bytes = IsComparedFrom limits bytes
IsRightTo CheckSame bytes = IsSameCertified bytes
IsRightTo (Build wish inputs outputs limits text) bytes = IsBuiltFor wish inputs outputs text

-- where it is right, it is the one right answer: what is refused has no other answer, and of most commands nothing has;
-- of `decide`, `make` of a chain, `layout`, `smallest`, `same` and `build` others may be right
abbrev pub IsOnly : Command → Answer → Type 0
IsOnly (FlowCheck p) a = Unit {0}
IsOnly Recover a = Unit {0}
IsOnly (Check p) a = Unit {0}
IsOnly (Decide p limits) a = status_of a ≡ 3
IsOnly (Make Butterfly order limits) a = Unit {0}
IsOnly (Make Chain order limits) a = status_of a ≡ 3
IsOnly (Layout rect tier learnt) a = status_of a ≡ 3
IsOnly (CheckLayout rect tier) a = Unit {0}
IsOnly (Smallest first most tier learnt) a = status_of a ≡ 3
IsOnly (FindSmall most tier sides learnt) a = status_of a ≡ 3
IsOnly (FlowFormula p) a = Unit {0}
IsOnly (PlaceFormula rect tier) a = Unit {0}
IsOnly (Same limits) a = status_of a ≡ 3
IsOnly CheckSame a = Unit {0}
IsOnly (Build wish inputs outputs limits text) a = status_of a ≡ 3

-- an answer that is the one right answer is equal to each right answer
abbrev pub OneRightAnswer : Type 0
OneRightAnswer = (command : Command) (bytes : List ℕ) (a b : Answer) → IsOnly command b → IsRightTo command bytes (Ok a) → IsRightTo command bytes (Ok b) → a ≡ b
