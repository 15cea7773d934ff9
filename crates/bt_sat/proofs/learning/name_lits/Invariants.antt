use Rattle.std.proofs.Common.{◌≡◌}
use Rattle.std.specs.Prelude.{take}
use Rattle.bt_sat.specs.inner.Analysing.{falses_at}
use Rattle.bt_sat.proofs.learning.name_lits.Given as goal

abbrev pub invariant-loop-place : goal.invariant-loop-place
invariant-loop-place l = l.lits.items ≡ falses_at l.trail (take l.place-index l.picked)
