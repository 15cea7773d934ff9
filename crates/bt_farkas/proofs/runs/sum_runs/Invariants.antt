use Rattle.std.proofs.Common.{◌<◌, ◌-◌, ◌^◌, List, length}
use Rattle.std.specs.List.{All}
use Rattle.bt_frac.specs.Ratio.{Ratio}
use Rattle.bt_frac.specs.Rows.{RowParts}
use Rattle.bt_farkas.specs.inner.Gathering.{AreEntriesOf}
use Rattle.bt_farkas.specs.declared.gathering.Entry.{Entry}
use Rattle.bt_farkas.proofs.GatheredLemmas.{AreSoFar}
use Rattle.bt_farkas.proofs.runs.sum_runs.Given as goal

abbrev pub invariant-loop-first : goal.invariant-loop-first
invariant-loop-first l = record {
  rows : All (λ (e : Entry). e.row < length l.weights) l.rest;
  columns : All (λ (e : Entry). e.column < 2 ^ 64 - 1) l.rest;
  so_far : (sum : List (RowParts × Ratio)) → AreEntriesOf sum l.weights l.entries → AreSoFar sum l.columns l.rest;
}

abbrev pub decreases-loop-first : goal.decreases-loop-first
decreases-loop-first l = length l.rest
