use Rattle.std.proofs.Common.{arith, ◌%◌, subst, sym}
use Rattle.std.specs.Int.{IsGcd}
use Rattle.std.proofs.lemmas.Nat.Gcd.{IsGcd-from_zero, IsGcd-from_mod}
use Rattle.bt_frac.proofs.gcd.wide_gcd.Goals as goal

pub loop-lesser-preserved : goal.loop-lesser-preserved
loop-lesser-preserved c g h = c.loop-lesser.invariant g (IsGcd-from_mod _ _ g h)

pub returns-then-lesser-eq0 : goal.returns-then-lesser-eq0
returns-then-lesser-eq0 c = c.loop-lesser.invariant _ (IsGcd-from_zero _ _ (omega arith))

pub returns : goal.returns
returns c =
    let rest = rw c.remainder-rest.ensures at c.short_gcd.ensures in
    let common = subst (λ g. IsGcd c.loop-lesser.lesser (c.loop-lesser.greater % c.loop-lesser.lesser) g) (sym c.from.ensures) rest in
    c.loop-lesser.invariant _ (IsGcd-from_mod _ _ _ common)
