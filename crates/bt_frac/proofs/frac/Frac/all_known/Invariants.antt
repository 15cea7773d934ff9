use Rattle.std.proofs.Common.{ℕ, ◌<◌, get_or}
use Rattle.bt_frac.specs.Ratio.{Ratio, IsLowest}
use Rattle.bt_frac.proofs.frac.Frac.all_known.Given as goal

abbrev pub invariant-loop-fraction : goal.invariant-loop-fraction
invariant-loop-fraction l = (k : ℕ) (d : Ratio) → k < l.fraction-index → IsLowest (get_or l.list k d)
