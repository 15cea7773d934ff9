use Rattle.std.proofs.Common.{take}
use Rattle.std.specs.List.{All}
use Rattle.bt_text.specs.Blanks.{IsBlank}
use Rattle.bt_text.proofs.blank.skip_blanks.Given as goal

-- what was passed over are blanks
abbrev pub invariant-loop-i : goal.invariant-loop-i
invariant-loop-i l = All IsBlank (take l.i l.text)
