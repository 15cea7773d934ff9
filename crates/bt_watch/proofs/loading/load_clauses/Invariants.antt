use Rattle.std.proofs.Common.{◌≡◌, length}
use Rattle.bt_watch.specs.inner.Loads.{HasLoaded}
use Rattle.bt_watch.proofs.loading.load_clauses.Given as goal

abbrev pub invariant-loop-number : goal.invariant-loop-number
invariant-loop-number l = record {
  loaded : HasLoaded l.formula.clauses l.number l.search;
  same : length l.search.assignment.values ≡ l.formula.vars;
}
