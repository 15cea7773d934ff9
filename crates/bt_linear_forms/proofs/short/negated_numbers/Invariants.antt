use Rattle.std.proofs.Common.{◌≡◌, ◌++◌, take, drop, true}
use Rattle.bt_linear_forms.specs.Shorts.{signed_numbers}
use Rattle.bt_linear_forms.proofs.short.negated_numbers.Given as goal

abbrev pub invariant-loop-entry : goal.invariant-loop-entry
invariant-loop-entry l = l.entry-items ≡ signed_numbers true (take l.entry-index l.fn.terms.items) ++ drop l.entry-index l.fn.terms.items
