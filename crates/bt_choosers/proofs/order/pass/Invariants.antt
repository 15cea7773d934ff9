use Rattle.std.proofs.Common.{ℕ, drop}
use Rattle.std.specs.Prelude.{Contains}
use Rattle.bt_cnf.specs.Truths.{LacksValue}
use Rattle.bt_choosers.proofs.order.pass.Given as goal

abbrev pub invariant-loop-place : goal.invariant-loop-place
invariant-loop-place l = (v : ℕ) → LacksValue l.values v → Contains (drop l.from l.vars) v → Contains (drop l.place l.vars) v
