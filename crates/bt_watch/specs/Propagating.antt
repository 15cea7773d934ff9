-- Propagation over watched clauses.
use Rattle.std.specs.Prelude.{◌≡◌, ◌+◌, ◌<◌, ℕ, Option, Some, None, List, [], ◌∷◌, ◌++◌, length, map, take, slice_index_or, Contains, IsPermutation}
use Rattle.std.specs.List.{All}
use Rattle.bt_cnf.specs.declared.literal.Lit.{Lit}
use Rattle.bt_cnf.specs.Truths.{IsFalseIn, unset}
use Rattle.bt_cnf.specs.Units.{opposite}
use Rattle.bt_watch.specs.Propagation.{IsFullyPropagated}
use Rattle.bt_watch.specs.declared.search.Search.{Search}
use Rattle.bt_watch.specs.Keeping.{kept_at, AreWatched, AreTrue, IsAtRest}
use Rattle.bt_watch.specs.Reasons.{AreSame, AreNumbered, IsReasoned}

-- unset literals were added to the trail, and each clause has its literals still, in some order
pub record GoesOn (old new : Search) : Type 0 where
  pub more : List Lit
  pub trail : new.assignment.trail.items ≡ old.assignment.trail.items ++ more
  pub variables : length new.assignment.values ≡ length old.assignment.values
  pub count : length new.clauses ≡ length old.clauses
  pub clauses : (id : ℕ) → IsPermutation (kept_at old.clauses id) (kept_at new.clauses id)
  pub room : unset new.assignment.values + length new.assignment.trail.items ≡ unset old.assignment.values + length old.assignment.trail.items
  pub numbers : new.numbers ≡ old.numbers
  pub starts : new.starts ≡ old.starts
  pub reasoned : (all : List (List Lit)) → AreNumbered all old → IsReasoned all old → IsReasoned all new
  pub rests : (front : List Lit) → All (Contains old.assignment.trail.items) front → All (IsAtRest front front) old.clauses → All (IsAtRest front front) new.clauses

-- what was true before the first choice, or all that is true where nothing was chosen
abbrev pub root_of : Search → List Lit
root_of s = take (slice_index_or s.starts.items 0 (length s.assignment.trail.items)) s.assignment.trail.items

-- the clauses are watched, and the trail has what is true
pub record IsWhole (s : Search) : Type 0 where
  pub watched : AreWatched (root_of s) (length s.assignment.values) s.clauses s.watchers
  pub truths : AreTrue s.assignment.values s.assignment.trail.items

-- all literals of the clause with this number are false
abbrev pub FailsAt : Search → ℕ → Type 0
FailsAt s id = (id < length s.clauses) × All (IsFalseIn s.assignment.values) (kept_at s.clauses id)

-- the first so many literals of the trail were propagated: by them each clause is at rest
pub record IsPropagatedTo (head : ℕ) (s : Search) : Type 0 where
  pub whole : IsWhole s
  pub part : List Lit
  pub part_in : All (Contains s.assignment.trail.items) part
  pub covers : (k : ℕ) (d : Lit) → k < head → k < length s.assignment.trail.items → Contains part (slice_index_or s.assignment.trail.items k d)
  pub rest : All (IsAtRest part s.assignment.trail.items) s.clauses

-- where a clause that was given is kept: it is one of the watched ones, or it has one literal alone, once or
-- repeated, which is true, or it has a variable with both signs
pub data IsKept (s : Search) (clause : List Lit) : Type 0 where
  among_watched : (id : ℕ) → id < length s.clauses → AreSame clause (kept_at s.clauses id) → IsKept s clause
  alone : (l : Lit) → Contains clause l → All (λ m. m ≡ l) clause → Contains s.assignment.trail.items l → IsKept s clause
  both_signs : (l : Lit) → Contains clause l → Contains clause (opposite l) → IsKept s clause

-- the literals that are false
abbrev pub falses_of : Search → List Lit
falses_of s = map opposite s.assignment.trail.items

-- propagation came to its end: all is propagated, and of the clauses that were given none is false and none is a unit;
-- or it came to a clause whose literals are all false
abbrev pub Propagates : Search → Search → Option ℕ → Type 0
Propagates old new None = GoesOn old new × IsPropagatedTo (length new.assignment.trail.items) new
    × ((given : List (List Lit)) → All (IsKept old) given → IsFullyPropagated given (falses_of new))
Propagates old new (Some id) = GoesOn old new × FailsAt new id × IsWhole new

-- one more clause is watched, behind the others, and its number is known; nothing else has changed
pub record Keeps (lits : List Lit) (number : ℕ) (old new : Search) : Type 0 where
  pub assignment : new.assignment ≡ old.assignment
  pub starts : new.starts ≡ old.starts
  pub clauses : new.clauses ≡ old.clauses ++ lits ∷ []
  pub numbers : new.numbers.items ≡ old.numbers.items ++ number ∷ []
  pub watched : AreWatched (root_of new) (length new.assignment.values) new.clauses new.watchers
