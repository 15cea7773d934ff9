use Rattle.std.proofs.Common.{take}
use Rattle.bt_flow.specs.Sums.{nothing, RunsTo, fractions_where}
use Rattle.bt_flow.specs.Properties.{is_last}
use Rattle.bt_flow.proofs.sums.output_sum.Given as goal

abbrev pub invariant-loop-place : goal.invariant-loop-place
invariant-loop-place l = RunsTo nothing (fractions_where is_last (take l.place l.edges) (take l.place l.flows)) l.sum
