-- Levels: what was true before each choice.
use Rattle.std.specs.Prelude.{◌≡◌, ◌<◌, ◌≤◌, ℕ, List, length, take, slice_index_or, Contains, [], ◌∷◌, ◌++◌, Option, Some, None}
use Rattle.std.specs.List.{All}
use Rattle.bt_cnf.specs.declared.literal.Lit.{Lit}
use Rattle.bt_cnf.specs.Truths.{IsFalseIn}
use Rattle.bt_cnf.specs.Units.{clause_at}
use Rattle.bt_watch.specs.declared.assignment.Assignment.{Assignment}
use Rattle.bt_watch.specs.declared.search.Search.{Search}
use Rattle.bt_watch.specs.Keeping.{kept_at, AreTrue, IsAtRest}
use Rattle.bt_watch.specs.Propagating.{IsWhole, IsPropagatedTo}
use Rattle.bt_watch.specs.Reasons.{AreSame, AreNumbered, IsReasoned, lit_at}
use Rattle.bt_watch.specs.Assigning.{Assigns}

-- the place where a level begins, or the end of the trail where there is no such level
abbrev pub start_of : Search → ℕ → ℕ
start_of s level = slice_index_or s.starts.items level (length s.assignment.trail.items)

-- what was true before a level began
abbrev pub front_of : Search → ℕ → List Lit
front_of s level = take (start_of s level) s.assignment.trail.items

-- levels begin at ascending places of the trail, and where each began all that was true had been propagated
pub record AreLevels (s : Search) : Type 0 where
  pub within : (j : ℕ) → j < length s.starts.items → start_of s j < length s.assignment.trail.items
  pub ascend : (i j : ℕ) → i < j → j < length s.starts.items → start_of s i < start_of s j
  pub rests : (j : ℕ) → j < length s.starts.items → All (IsAtRest (front_of s j) (front_of s j)) s.clauses

-- the trail, its reasons and its levels are in order
pub record IsOrdered (all : List (List Lit)) (s : Search) : Type 0 where
  pub whole : IsWhole s
  pub numbered : AreNumbered all s
  pub reasoned : IsReasoned all s
  pub levels : AreLevels s

-- where a clause that was given is kept: it is one of the watched ones, or it has one literal alone, which is true
-- before the first choice
pub data IsHeld (s : Search) (clause : List Lit) : Type 0 where
  among_watched : (id : ℕ) → id < length s.clauses → AreSame clause (kept_at s.clauses id) → IsHeld s clause
  alone : (l : Lit) → Contains clause l → All (λ m. m ≡ l) clause → Contains (front_of s 0) l → IsHeld s clause

-- all clauses are kept, and the first so many literals of the trail were propagated
pub record IsReady (all : List (List Lit)) (propagated : ℕ) (s : Search) : Type 0 where
  pub ordered : IsOrdered all s
  pub held : All (IsHeld s) all
  pub propagates : IsPropagatedTo propagated s

-- all literals of the clause with this number are false; where something was chosen, all clauses are kept
pub record IsInConflict (all : List (List Lit)) (number : ℕ) (s : Search) : Type 0 where
  pub ordered : IsOrdered all s
  pub held : 0 < length s.starts.items → All (IsHeld s) all
  pub below : number < length all
  pub falses : All (IsFalseIn s.assignment.values) (clause_at all number)

-- the places of the literals of the trail are known
abbrev pub ArePlaced : Assignment → Type 0
ArePlaced a = (k : ℕ) → k < length a.trail.items → slice_index_or a.places.items (lit_at a.trail.items k).var 0 ≡ k

-- the trail has its first so many literals alone, which are all that are true
pub record Unassigns (size : ℕ) (old new : Assignment) : Type 0 where
  pub trail : new.trail.items ≡ take size old.trail.items
  pub reasons : new.reasons.items ≡ take size old.reasons.items
  pub places : new.places ≡ old.places
  pub variables : length new.values ≡ length old.values
  pub truths : AreTrue new.values new.trail.items

-- what was true before the level is true, and nothing else; the clauses stay
pub record Backjumps (level : ℕ) (old new : Search) : Type 0 where
  pub forgets : Unassigns (start_of old level) old.assignment new.assignment
  pub starts : new.starts.items ≡ take level old.starts.items
  pub clauses : new.clauses ≡ old.clauses
  pub watchers : new.watchers ≡ old.watchers
  pub numbers : new.numbers ≡ old.numbers

-- so many levels begin at a place or before it
pub record IsLevelOf (starts : List ℕ) (place level : ℕ) : Type 0 where
  pub within : level ≤ length starts
  pub before : (j : ℕ) → j < level → slice_index_or starts j 0 ≤ place
  pub after : (j : ℕ) → level ≤ j → j < length starts → place < slice_index_or starts j 0

-- a level begins with a literal that is chosen
pub record BeginsLevel (l : Lit) (old new : Search) : Type 0 where
  pub assigns : Assigns old.assignment new.assignment l None
  pub starts : new.starts.items ≡ old.starts.items ++ length old.assignment.trail.items ∷ []
  pub clauses : new.clauses ≡ old.clauses
  pub watchers : new.watchers ≡ old.watchers
  pub numbers : new.numbers ≡ old.numbers

-- where the search stands: all literals of a clause are false, or none is known to be so
abbrev pub Stands : List (List Lit) → ℕ → Search → Option ℕ → Type 0
Stands all propagated s None = IsReady all propagated s
Stands all propagated s (Some conflict) = IsInConflict all conflict s
