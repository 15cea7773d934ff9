-- What the search keeps true of its clauses, of the lists of those that watch a literal, and of the trail.
use Rattle.std.specs.Prelude.{◌≡◌, ◌≢◌, ◌⊎◌, ◌*◌, ◌≤◌, ◌<◌, ℕ, Bool, List, [], Option, length, slice_index_or, Contains}
use Rattle.std.specs.List.{All}
use Rattle.bt_cnf.specs.Formulas.{LitsBelow}
use Rattle.bt_cnf.specs.declared.literal.Lit.{Lit}
use Rattle.bt_cnf.specs.Truths.{IsTrueIn}
use Rattle.bt_cnf.specs.Units.{opposite}
use Rattle.bt_watch.specs.declared.clause_pool.Watch.{Watch}
use Rattle.bt_watch.specs.Watched.{first, second}
use Rattle.bt_watch.specs.Watchers.{watchers, watches_of}
use Rattle.bt_watch.specs.WatchersParts.{WatchersParts}

-- a clause has two or more literals of variables, and the two that it watches differ
pub record IsWatchable (vars : ℕ) (clause : List Lit) : Type 0 where
  pub two : 2 ≤ length clause
  pub below : LitsBelow vars clause
  pub differ : first clause ≢ second clause

-- a clause is on the lists of both literals that it watches
pub record IsListed (w : WatchersParts) (id : ℕ) (clause : List Lit) : Type 0 where
  pub by_first : Contains (watchers w (first clause)) id
  pub by_second : Contains (watchers w (second clause)) id

-- a literal of the clause is true
pub record IsSatisfied (trail clause : List Lit) : Type 0 where
  pub lit : Lit
  pub among : Contains clause lit
  pub holds : Contains trail lit

-- a clause is on both its lists; or one of its literals is true for good, so that it needs none
abbrev pub IsFollowed : List Lit → WatchersParts → ℕ → List Lit → Type 0
IsFollowed base w id clause = IsListed w id clause ⊎ IsSatisfied base clause

-- the clause with this number
abbrev pub kept_at : List (List Lit) → ℕ → List Lit
kept_at clauses id = slice_index_or clauses id []

-- there is such a clause, and the blocking literal is one of it
pub record IsBlocked (clauses : List (List Lit)) (watch : Watch) : Type 0 where
  pub below : watch.id < length clauses
  pub among : Contains (kept_at clauses watch.id) watch.blocker

-- each clause is watchable, and on its two lists where none of its literals is among those that are true for good; the
-- lists name clauses, with a literal of each
pub record AreWatched (base : List Lit) (vars : ℕ) (clauses : List (List Lit)) (w : WatchersParts) : Type 0 where
  pub lists : length w.lists ≡ 2 * vars
  pub watchable : All (IsWatchable vars) clauses
  pub listed : (id : ℕ) → id < length clauses → IsFollowed base w id (kept_at clauses id)
  pub blocked : (l : Lit) → All (IsBlocked clauses) (watches_of w l)

-- the trail has exactly the literals that are true
pub record AreTrue (values : List (Option Bool)) (trail : List Lit) : Type 0 where
  pub below : LitsBelow (length values) trail
  pub true_in : (l : Lit) → Contains trail l → IsTrueIn values l
  pub in_trail : (l : Lit) → IsTrueIn values l → Contains trail l

-- where one of the two literals that a clause watches has its opposite in a part of the trail, a literal of it is true
pub record IsAtRest (part trail clause : List Lit) : Type 0 where
  pub if_first : Contains part (opposite (first clause)) → IsSatisfied trail clause
  pub if_second : Contains part (opposite (second clause)) → IsSatisfied trail clause
