-- For each literal, the clauses that watch it.
use Rattle.std.specs.Prelude.{ℕ, [], List, map, slice_index_or}
use Rattle.bt_cnf.specs.declared.literal.Lit.{Lit}
use Rattle.bt_watch.specs.declared.clause_pool.Watch.{Watch}
use Rattle.bt_cnf.specs.Codes.{code_of}
use Rattle.bt_watch.specs.WatchersParts.{WatchersParts}

-- the list of a literal, which stands at the literal's number
abbrev pub watches_of : WatchersParts → Lit → List Watch
watches_of w l = slice_index_or w.lists (code_of l) []

-- the clauses that watch a literal
abbrev pub watchers : WatchersParts → Lit → List ℕ
watchers w l = map (λ (watch : Watch). watch.id) (watches_of w l)
