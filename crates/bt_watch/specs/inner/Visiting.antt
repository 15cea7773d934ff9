-- Visiting the clauses that watch a literal that has become false.
use Rattle.std.specs.Prelude.{◌≡◌, ◌<◌, ℕ, Bool, List, Option, length, slice_index_or, Contains}
use Rattle.std.specs.List.{All}
use Rattle.bt_cnf.specs.declared.literal.Lit.{Lit}
use Rattle.bt_cnf.specs.Truths.{IsFalseIn}
use Rattle.bt_watch.specs.Watched.{first, second}
use Rattle.bt_watch.specs.Watchers.{watchers}
use Rattle.bt_watch.specs.WatchersParts.{WatchersParts}
use Rattle.bt_watch.specs.Keeping.{IsSatisfied, AreWatched, IsAtRest, kept_at, AreTrue}

-- where a clause watches this literal, a literal of it is true
pub record IsDone (false_lit : Lit) (trail clause : List Lit) : Type 0 where
  pub if_first : first clause ≡ false_lit → IsSatisfied trail clause
  pub if_second : second clause ≡ false_lit → IsSatisfied trail clause

-- the clauses that watch a false literal are being visited: all is kept, each clause is at rest by a part of the trail,
-- and the first so many of the literal's list are done
pub record IsVisiting (part : List Lit) (false_lit : Lit) (place : ℕ) (base : List Lit) (values : List (Option Bool)) (trail : List Lit)
    (clauses : List (List Lit)) (w : WatchersParts) : Type 0 where
  pub watched : AreWatched base (length values) clauses w
  pub base_in : All (Contains trail) base
  pub truths : AreTrue values trail
  pub rest : All (IsAtRest part trail) clauses
  pub part_in : All (Contains trail) part
  pub lit_is_false : IsFalseIn values false_lit
  pub done : (k : ℕ) → k < place → k < length (watchers w false_lit) → IsDone false_lit trail (kept_at clauses (slice_index_or (watchers w false_lit) k 0))
