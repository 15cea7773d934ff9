use Rattle.std.proofs.Common.{◌≡◌, drop}
use Rattle.bt_linear_forms.specs.Shorts.{whole_at}
use Rattle.bt_linear_forms.proofs.short.whole_at.Given as goal

abbrev pub invariant-loop-entry : goal.invariant-loop-entry
invariant-loop-entry l = whole_at l.position l.terms ≡ whole_at l.position (drop l.entry-index l.terms)
