-- A clause that is learnt, where the search has gone back.
use Rattle.std.specs.Prelude.{◌≡◌, ◌⊎◌, ◌<◌, ◌≤◌, ℕ, List, [], length, map, slice_index_or, Contains}
use Rattle.std.specs.List.{All}
use Rattle.bt_cnf.specs.Formulas.{LitsBelow}
use Rattle.bt_cnf.specs.declared.literal.Lit.{Lit}
use Rattle.bt_cnf.specs.Truths.{IsTrueIn, IsFalseIn}
use Rattle.bt_cnf.specs.Units.{opposite, HasNoBothSigns, clause_at}
use Rattle.bt_log.specs.Units.{UnitsRefute}
use Rattle.bt_watch.specs.declared.search.Search.{Search}
use Rattle.bt_watch.specs.Levels.{start_of, front_of, IsReady, IsLevelOf}
use Rattle.bt_watch.specs.Reasons.{lit_at}

-- the places are of the trail, the greatest first, and the first is the only one from where a level begins on
pub record HaveUniquePoint (s : Search) (picked : List ℕ) : Type 0 where
  pub within : (k : ℕ) → Contains picked k → k < length s.assignment.trail.items
  pub descend : (i j : ℕ) → i < j → j < length picked → slice_index_or picked j 0 < slice_index_or picked i 0
  pub level : ℕ
  pub known : 0 < length picked → level < length s.starts.items
  pub first : 0 < length picked → start_of s level ≤ slice_index_or picked 0 0
  pub rest : (i : ℕ) → 0 < i → i < length picked → slice_index_or picked i 0 < start_of s level

-- all that is true was propagated, and of the literals of a clause the first alone is unset, the others being false; the second
-- became false at the last level, or there is none, and nothing is chosen
pub record IsAsserting (all : List (List Lit)) (s : Search) (lits : List Lit) : Type 0 where
  pub ready : IsReady all (length s.assignment.trail.items) s
  pub some : 0 < length lits
  pub below : LitsBelow (length s.assignment.values) lits
  pub not_true : IsTrueIn s.assignment.values (lit_at lits 0) → ⊥
  pub not_false : IsFalseIn s.assignment.values (lit_at lits 0) → ⊥
  pub others : (i : ℕ) → 0 < i → i < length lits → IsFalseIn s.assignment.values (lit_at lits i)
  pub second : 1 < length lits → (j : ℕ) → j < length s.starts.items → Contains (front_of s j) (opposite (lit_at lits 1)) → ⊥
  pub alone : length lits ≡ 1 → length s.starts.items ≡ 0

-- the hints show that a clause follows
pub record IsHinted (all : List (List Lit)) (vars : ℕ) (lits : List Lit) (hints : List ℕ) : Type 0 where
  pub below : LitsBelow vars lits
  pub signs : HasNoBothSigns lits
  pub numbers : All (λ n. n < length all) hints
  pub units : UnitsRefute lits (map (clause_at all) hints)

-- what is learnt from a conflict: a clause that follows, which is empty, or which the search, jumped back, asserts
pub record IsPrepared (all : List (List Lit)) (vars : ℕ) (s : Search) (lits : List Lit) (hints : List ℕ) : Type 0 where
  pub variables : length s.assignment.values ≡ vars
  pub hinted : IsHinted all vars lits hints
  pub asserts : (lits ≡ []) ⊎ IsAsserting all s lits

-- all places but the first are of literals that are true before this level begins; the second isn't before the level in
-- front of it; where there is one place alone, the level is the first of all
pub record IsAssertionLevel (starts picked : List ℕ) (level : ℕ) : Type 0 where
  pub many : 1 < length picked → IsLevelOf starts (slice_index_or picked 1 0) level
  pub one : length picked ≤ 1 → level ≡ 0
