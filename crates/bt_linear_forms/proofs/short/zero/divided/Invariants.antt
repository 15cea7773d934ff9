use Rattle.bt_linear_forms.proofs.ShortZeros.{ArePartlyLowered}
use Rattle.bt_linear_forms.proofs.short.zero.divided.Given as goal

abbrev pub invariant-loop-term : goal.invariant-loop-term
invariant-loop-term l = ArePartlyLowered l.under l.by l.fn.terms.items l.term-items l.term-index
