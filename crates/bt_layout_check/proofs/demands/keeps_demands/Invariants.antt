use Rattle.std.proofs.Common.{ℕ, ◌<◌, get_or}
use Rattle.bt_net.specs.declared.network.Demand.{Demand}
use Rattle.bt_model.specs.Laying.{KeepsDemand}
use Rattle.bt_layout_check.specs.Laid.{naming_of}
use Rattle.bt_layout_check.proofs.demands.keeps_demands.Given as goal

-- all lines so far are kept
abbrev pub invariant-loop-demand : goal.invariant-loop-demand
invariant-loop-demand l = (k : ℕ) (d : Demand) → k < l.demand-index → KeepsDemand l.parts l.request (naming_of l.names) (get_or l.request.demands k d)
