use Rattle.std.proofs.Common.{◌<◌, ◌^◌, take}
use Rattle.std.specs.List.{All}
use Rattle.bt_linear_forms.specs.Shorts.{Divides}
use Rattle.bt_linear_forms.proofs.short.common_multiple_of.Given as goal

abbrev pub invariant-loop-term : goal.invariant-loop-term
invariant-loop-term l = (0 < l.under) × (l.under < 2 ^ 31) × All (λ t. Divides t.1.under l.under) (take l.term-index l.terms)
