use Rattle.std.proofs.Common.{subst, unsigned_abs}
use Rattle.std.specs.List.{All}
use Prim.Native.Nat.{◌∣◌}
use Rattle.bt_linear_forms.proofs.short.zero.lowered.Goals as goal

pub divided-requires-clause-terms : goal.divided-requires-clause-terms
divided-requires-clause-terms c =
    subst (λ l. All (λ t. c.common_divisor_of-common.result ∣ unsigned_abs t.1) l) c.deref.ensures.value c.common_divisor_of-common.ensures.terms
