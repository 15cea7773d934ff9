use Rattle.std.proofs.Common.{take}
use Rattle.bt_flow.specs.Sums.{nothing, RunsTo}
use Rattle.bt_flow.proofs.sums.sum_of.Given as goal

abbrev pub invariant-loop-number : goal.invariant-loop-number
invariant-loop-number l = RunsTo nothing (take l.number-index l.numbers) l.sum
