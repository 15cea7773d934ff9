use Rattle.bt_linear_forms.proofs.Shorts.{AreOver}
use Rattle.bt_linear_forms.proofs.short.short_over.Given as goal

abbrev pub invariant-loop-term : goal.invariant-loop-term
invariant-loop-term l = AreOver l.under l.terms l.term-index l.numbers.items
