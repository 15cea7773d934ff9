use Rattle.std.proofs.Common.{ℕ, ◌<◌}
use Rattle.bt_model.specs.RequestFaults.{HasOtherCap}
use Rattle.bt_model.proofs.refusing.other_cap.Given as goal

abbrev pub invariant-loop-k : goal.invariant-loop-k
invariant-loop-k l = (j : ℕ) → j < l.k → HasOtherCap l.net j → ⊥
