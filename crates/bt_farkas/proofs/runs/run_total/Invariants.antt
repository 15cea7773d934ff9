use Rattle.std.proofs.Common.{◌<◌, map, take}
use Rattle.std.specs.List.{All}
use Rattle.bt_frac.specs.Values.{nothing}
use Rattle.bt_farkas.specs.RunningSums.{RunsTo}
use Rattle.bt_farkas.specs.inner.Gathering.{pair_of}
use Rattle.bt_farkas.specs.declared.gathering.Entry.{Entry}
use Rattle.bt_farkas.proofs.runs.run_total.Given as goal

abbrev pub invariant-loop-entry : goal.invariant-loop-entry
invariant-loop-entry l = record {
  below : All (λ (e : Entry). e.row < l.limit) (take l.entry-index l.run);
  runs : RunsTo nothing (map (pair_of l.weights) (take l.entry-index l.run)) l.sum;
}
