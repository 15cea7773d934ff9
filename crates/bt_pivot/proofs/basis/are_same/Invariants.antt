use Rattle.std.proofs.Common.{◌≡◌, take}
use Rattle.bt_linear_forms.specs.Lines.{signed_terms}
use Rattle.bt_pivot.proofs.basis.are_same.Given as goal

abbrev pub invariant-loop-i : goal.invariant-loop-i
invariant-loop-i l = signed_terms l.negated (take l.i l.line) ≡ take l.i l.others
