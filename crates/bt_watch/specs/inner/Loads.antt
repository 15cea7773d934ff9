-- Loading the clauses of a formula, one by one.
use Rattle.std.specs.Prelude.{◌≡◌, ◌≢◌, ◌≤◌, ◌<◌, ◌+◌, ◌*◌, ℕ, Bool, true, false, List, [], Option, Some, None, length, IsPermutation}
use Rattle.std.specs.List.{All}
use Rattle.bt_cnf.specs.declared.literal.Lit.{Lit}
use Rattle.bt_cnf.specs.Units.{clause_at}
use Rattle.bt_watch.specs.declared.assignment.Assignment.{Assignment}
use Rattle.bt_watch.specs.declared.search.Search.{Search}
use Rattle.bt_watch.specs.declared.clause_pool.Watch.{Watch}
use Rattle.bt_watch.specs.Watched.{first, second}
use Rattle.bt_watch.specs.Levels.{IsOrdered, IsHeld, IsInConflict}
use Rattle.bt_watch.specs.Reasons.{lit_at}
use Rattle.bt_watch.specs.WatchersParts.{WatchersParts}

-- so many lists, which are empty
pub record AreEmptyLists (count : ℕ) (lists : List (List Watch)) : Type 0 where
  pub size : length lists ≡ count
  pub empty : All (λ list. list ≡ []) lists

-- nothing watches a literal of so many variables
abbrev pub AreUnwatched : ℕ → WatchersParts → Type 0
AreUnwatched vars w = AreEmptyLists (2 * vars) w.lists

-- so many variables, of which none is set
pub record AreUnsetAll (vars : ℕ) (values : List (Option Bool)) : Type 0 where
  pub size : length values ≡ vars
  pub unset : All (λ value. value ≡ None) values

-- none of so many variables is set, and nothing is true
pub record IsUnassigned (vars : ℕ) (a : Assignment) : Type 0 where
  pub values : AreUnsetAll vars a.values
  pub trail : a.trail.items ≡ []
  pub reasons : a.reasons.items ≡ []
  pub places : length a.places.items ≡ vars

-- nothing is true, and no clause is kept
pub record IsEmptySearch (vars : ℕ) (s : Search) : Type 0 where
  pub assignment : IsUnassigned vars s.assignment
  pub clauses : s.clauses ≡ []
  pub watchers : AreUnwatched vars s.watchers
  pub numbers : s.numbers.items ≡ []
  pub starts : s.starts.items ≡ []

-- a place whose literal differs from the first, or all literals are the same
abbrev pub IsOther : List Lit → Option ℕ → Type 0
IsOther lits None = All (λ m. m ≡ first lits) lits
IsOther lits (Some place) = (place < length lits) × (lit_at lits place ≢ first lits)

-- the literals in another order, of which the first two differ
pub record ArePaired (lits paired : List Lit) : Type 0 where
  pub permuted : IsPermutation lits paired
  pub two : 2 ≤ length paired
  pub differ : first paired ≢ second paired

-- nothing is chosen, and the first so many clauses are kept
pub record HasLoaded (all : List (List Lit)) (count : ℕ) (s : Search) : Type 0 where
  pub ordered : IsOrdered all s
  pub held : (n : ℕ) → n < count → IsHeld s (clause_at all n)
  pub starts : s.starts.items ≡ []

-- the next clause is kept, or all its literals are false
abbrev pub Loads : List (List Lit) → ℕ → Search → Bool → Type 0
Loads all number s true = HasLoaded all (number + 1) s
Loads all number s false = IsInConflict all number s
