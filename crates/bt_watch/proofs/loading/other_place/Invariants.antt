use Rattle.std.proofs.Common.{◌≡◌, ℕ, ◌<◌}
use Rattle.bt_watch.specs.Reasons.{lit_at}
use Rattle.bt_watch.proofs.loading.other_place.Given as goal

abbrev pub invariant-loop-place : goal.invariant-loop-place
invariant-loop-place l = (k : ℕ) → k < l.place → lit_at l.lits k ≡ lit_at l.lits 0
