-- What is formed of an answer's text before it is written.
use Rattle.std.specs.Prelude.{ℕ, List, []}
use Rattle.bt_grids.specs.SmallestText.{blueprint_of, blueprint_of_small}
use Rattle.bt_print.specs.declared.answer.Answer.{Answer}
use Rattle.bt_print.specs.declared.answer.Answer.TheVariants.{Brief, LaidOut, Least, Small}
use Rattle.bt_entities.specs.Written.{blueprint_text}
use Rattle.bt_print.specs.Answers.{brief_text}

-- what is formed of an answer's text before it is written: its line, or the blueprint in it; else nothing
abbrev pub formed_text : Answer → List ℕ
formed_text (Brief b) = brief_text b
formed_text (LaidOut parts priorities) = blueprint_text parts.items priorities.items
formed_text (Least first found priorities) = blueprint_of found priorities.items
formed_text (Small found priorities) = blueprint_of_small found priorities.items
formed_text other = []

-- something of the answer's text is formed
abbrev pub NeedsMemory : Answer → Type 0
NeedsMemory (Brief b) = Unit {0}
NeedsMemory (LaidOut parts priorities) = Unit {0}
NeedsMemory (Least first found priorities) = Unit {0}
NeedsMemory (Small found priorities) = Unit {0}
NeedsMemory other = ⊥
