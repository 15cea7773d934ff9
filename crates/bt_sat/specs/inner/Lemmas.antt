-- A lemma that is added where all variables have a value.
use Rattle.std.specs.Prelude.{◌≡◌, ◌≢◌, ◌⊎◌, ◌↔◌, ◌<◌, ◌≤◌, ℕ, List, [], ◌∷◌, ◌++◌, Option, length, slice_index_or, Contains}
use Rattle.std.specs.List.{All}
use Rattle.bt_frac.specs.Ratio.{Ratio}
use Rattle.bt_cnf.specs.Formulas.{LitsBelow}
use Rattle.bt_cnf.specs.declared.literal.Lit.{Lit}
use Rattle.bt_cnf.specs.Truths.{IsFalseIn}
use Rattle.bt_log.specs.Logs.{Lemma}
use Rattle.bt_cnf.specs.Units.{opposite}
use Rattle.bt_watch.specs.declared.search.Search.{Search}
use Rattle.bt_watch.specs.Levels.{front_of, AreLevels, ArePlaced, IsHeld, IsOrdered, IsReady, Stands}
use Rattle.bt_watch.specs.Propagating.{IsWhole}
use Rattle.bt_watch.specs.Reasons.{AreSame, lit_at}
use Rattle.bt_sat.specs.declared.progress.Progress.{Progress}
use Rattle.bt_sat.specs.inner.Analysing.{falses_at, IsSeen}
use Rattle.bt_sat.specs.inner.Asserting.{IsAsserting}
use Rattle.bt_sat.specs.inner.Progressing.{IsRunning, LogsStep}

-- the lemma is one more step, and the search may go on
pub record TakesLemma (old : Progress) (lits : List Lit) (weights : List Ratio) (new : Progress) : Type 0 where
  pub running : IsRunning new
  pub logs : LogsStep old.known new.known (Lemma lits weights)
  pub limit : new.limit ≡ old.limit

-- the places of the literals of the trail are known, and its levels are in order
pub record IsTraceable (s : Search) : Type 0 where
  pub whole : IsWhole s
  pub levels : AreLevels s
  pub placed : ArePlaced s.assignment
  pub room : length s.assignment.places.items ≡ length s.assignment.values

-- the places of the clause's literals are on the agenda, before the bound, or were picked, the greatest first
pub record IsListing (places : List ℕ) (clause : List Lit) (size : ℕ) (agenda picked : List ℕ) (bound : ℕ) : Type 0 where
  pub among : (k : ℕ) → (Contains agenda k ⊎ Contains picked k) ↔ IsSeen places clause size (length clause) k
  pub before : (k : ℕ) → Contains agenda k → k < bound
  pub bounded : bound ≤ size
  pub after : (k : ℕ) → Contains picked k → (bound ≤ k) × (k < size)
  pub descend : (i j : ℕ) → i < j → j < length picked → slice_index_or picked j 0 < slice_index_or picked i 0

-- at these places of the trail, the greatest first, the clause's literals became false
pub record ArePicked (trail : List Lit) (clause : List Lit) (picked : List ℕ) : Type 0 where
  pub within : (k : ℕ) → Contains picked k → k < length trail
  pub descend : (i j : ℕ) → i < j → j < length picked → slice_index_or picked j 0 < slice_index_or picked i 0
  pub same : AreSame clause (falses_at trail picked)

-- all literals of a clause are false; the first two became so at the last level, or there is one alone, and nothing is
-- chosen
pub record IsFailing (all : List (List Lit)) (s : Search) (lits : List Lit) : Type 0 where
  pub ordered : IsOrdered all s
  pub held : All (IsHeld s) all
  pub some : 0 < length lits
  pub below : LitsBelow (length s.assignment.values) lits
  pub falses : All (IsFalseIn s.assignment.values) lits
  pub differ : 1 < length lits → lit_at lits 0 ≢ lit_at lits 1
  pub first : 1 < length lits → (j : ℕ) → j < length s.starts.items → Contains (front_of s j) (opposite (lit_at lits 0)) → ⊥
  pub second : 1 < length lits → (j : ℕ) → j < length s.starts.items → Contains (front_of s j) (opposite (lit_at lits 1)) → ⊥
  pub alone : length lits ≡ 1 → length s.starts.items ≡ 0

-- a clause can be added: it asserts its first literal, or it is false
abbrev pub CanAdmit : List (List Lit) → Search → List Lit → Type 0
CanAdmit all s lits = IsAsserting all s lits ⊎ IsFailing all s lits

-- the search went back to where the clause with the same literals, in another order and without repeats, can be added
pub record BackjumpsFor (old : Search) (clause : List Lit) (new : Search) (lits : List Lit) : Type 0 where
  pub same : AreSame clause lits
  pub variables : length new.assignment.values ≡ length old.assignment.values
  pub admits : (all : List (List Lit)) (propagated : ℕ) → IsReady all propagated old → 0 < length lits → CanAdmit all new lits

-- the clause is one of those that are kept, or the one whose literals are all false
pub record Admits (all : List (List Lit)) (lits : List Lit) (old new : Search) (conflict : Option ℕ) : Type 0 where
  pub stands : Stands (all ++ lits ∷ []) (length old.assignment.trail.items) new conflict
  pub variables : length new.assignment.values ≡ length old.assignment.values
