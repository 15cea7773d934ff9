-- For each literal, the clauses that watch it.
use Rattle.std.specs.Prelude.{List}
use Rattle.bt_watch.specs.declared.clause_pool.Watch.{Watch}

-- the lists, of which those of a variable's positive and of its negative literal stand side by side
pub record WatchersParts : Type 0 where
  pub lists : List (List Watch)
