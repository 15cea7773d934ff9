use Rattle.std.proofs.Common.{◌≡◌, take, false}
use Rattle.std.specs.List.{list_any}
use Rattle.bt_model.specs.Requests.{is_row}
use Rattle.bt_demands.proofs.rowing.some_is_row.Given as goal

abbrev pub invariant-loop-demand : goal.invariant-loop-demand
invariant-loop-demand l = list_any is_row (take l.demand-index l.demands) ≡ false
