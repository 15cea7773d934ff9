use Rattle.std.proofs.Common.{◌≡◌, map}
use Rattle.std.specs.Prelude.{take}
use Rattle.bt_sat.specs.inner.Kernels.{value_of}
use Rattle.bt_sat.proofs.turns.list_model.Given as goal

abbrev pub invariant-loop-place : goal.invariant-loop-place
invariant-loop-place l = l.model.items ≡ map value_of (take l.place l.values)
