use Rattle.std.proofs.Common.{ℕ, drop}
use Rattle.bt_choosers.specs.inner.FirstUnset.{IsFirstUnset}
use Rattle.bt_choosers.proofs.choosers.first_unset.Given as goal

abbrev pub invariant-loop-lit : goal.invariant-loop-lit
invariant-loop-lit l = (place : ℕ) → IsFirstUnset (drop l.lit-index l.clause) l.unset place → IsFirstUnset l.clause l.unset place
