use Rattle.std.proofs.Common.{ℕ, ◌<◌}
use Rattle.bt_same.specs.inner.Comparing.{IsAlikeAt}
use Rattle.bt_same.proofs.comparing.give_alike.Given as goal

abbrev pub invariant-loop-output : goal.invariant-loop-output
invariant-loop-output l = (o : ℕ) → o < l.output → IsAlikeAt l.first l.second l.of_first l.of_second o
