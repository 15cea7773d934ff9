use Rattle.std.proofs.Common.{◌≡◌, take}
use Rattle.bt_extend.specs.inner.Adding.{with_opposites}
use Rattle.bt_extend.proofs.extension.add_opposites.Given as goal

abbrev pub invariant-loop-lit : goal.invariant-loop-lit
invariant-loop-lit l = l.formula ≡ with_opposites l.initial.formula l.var (take l.lit-index l.lits)
