use Rattle.std.proofs.Common.{◌<◌, take, unsigned_abs}
use Rattle.std.specs.List.{All}
use Prim.Native.Nat.{◌∣◌}
use Rattle.bt_linear_forms.proofs.short.zero.common_divisor_of.Given as goal

abbrev pub invariant-loop-term : goal.invariant-loop-term
invariant-loop-term l = (0 < l.common) × (l.common ∣ l.under) × All (λ t. l.common ∣ unsigned_abs t.1) (take l.term-index l.terms)
