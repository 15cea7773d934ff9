use Rattle.std.proofs.Common.{arith}
use Rattle.std.proofs.lemmas.Nat.Gcd.{IsGcd-from_zero, IsGcd-from_mod}
use Rattle.bt_frac.proofs.Gcds.{coprime_to_one}
use Rattle.bt_linear_forms.proofs.short.common_divisor.Goals as goal

pub loop-lesser-preserved : goal.loop-lesser-preserved
loop-lesser-preserved c g h = c.loop-lesser.invariant g (IsGcd-from_mod _ _ g h)

pub returns-then-lesser-eq1 : goal.returns-then-lesser-eq1
returns-then-lesser-eq1 c = c.loop-lesser.invariant _ (coprime_to_one _ _ (omega arith))

pub returns-else-lesser-eq1 : goal.returns-else-lesser-eq1
returns-else-lesser-eq1 c = c.loop-lesser.invariant _ (IsGcd-from_zero _ _ (omega arith))
