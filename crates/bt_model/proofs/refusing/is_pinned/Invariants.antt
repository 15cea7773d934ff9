use Rattle.std.proofs.Common.{◌≡◌, ℕ, ◌<◌, Some}
use Rattle.std.specs.Prelude.{slice_get}
use Rattle.bt_net.specs.declared.network.Demand.{Demand}
use Rattle.bt_model.specs.Requests.{IsPinnedTo, blocked}
use Rattle.bt_model.proofs.refusing.is_pinned.Given as goal

abbrev pub invariant-loop-demand : goal.invariant-loop-demand
invariant-loop-demand l = (j : ℕ) → j < l.demand-index → (d : Demand) → slice_get l.demands j ≡ Some d → IsPinnedTo (blocked l.block) d → ⊥
