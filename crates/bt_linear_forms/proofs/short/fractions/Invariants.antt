use Rattle.std.proofs.Common.{◌≡◌, take}
use Rattle.bt_linear_forms.specs.Shorts.{terms_over}
use Rattle.bt_linear_forms.proofs.short.fractions.Given as goal

abbrev pub invariant-loop-entry : goal.invariant-loop-entry
invariant-loop-entry l = l.fractions.items ≡ terms_over l.under (take l.entry-index l.terms)
