-- Why the literals of the trail are true.
use Rattle.std.specs.Prelude.{◌≡◌, ◌⊎◌, ◌↔◌, ◌<◌, ℕ, List, Some, None, length, take, slice_index_or, Contains}
use Rattle.std.specs.List.{All}
use Rattle.bt_cnf.specs.declared.literal.Lit.{Lit}
use Rattle.bt_cnf.specs.Units.{opposite, clause_at}
use Rattle.bt_watch.specs.declared.assignment.Assignment.{Assignment}
use Rattle.bt_watch.specs.declared.search.Search.{Search}
use Rattle.bt_watch.specs.Watched.{no_lit}
use Rattle.bt_watch.specs.Keeping.{kept_at}

-- the same literals, in any order and each however often
abbrev pub AreSame : List Lit → List Lit → Type 0
AreSame a b = (l : Lit) → Contains a l ↔ Contains b l

-- the literal of the trail at a place
abbrev pub lit_at : List Lit → ℕ → Lit
lit_at trail place = slice_index_or trail place no_lit

-- the clause with this number has the literal, and all its others were false before
pub record IsReason (all : List (List Lit)) (before : List Lit) (l : Lit) (number : ℕ) : Type 0 where
  pub below : number < length all
  pub among : Contains (clause_at all number) l
  pub others : All (λ m. (m ≡ l) ⊎ Contains before (opposite m)) (clause_at all number)

-- each kept clause has its number among those that were given
pub record AreNumbered (all : List (List Lit)) (s : Search) : Type 0 where
  pub count : length s.numbers.items ≡ length s.clauses
  pub below : (id : ℕ) → id < length s.clauses → slice_index_or s.numbers.items id 0 < length all
  pub same : (id : ℕ) → id < length s.clauses → AreSame (clause_at all (slice_index_or s.numbers.items id 0)) (kept_at s.clauses id)

-- the places of the literals of the trail are known, and each has a reason or was chosen
pub record AreReasons (all : List (List Lit)) (starts : List ℕ) (a : Assignment) : Type 0 where
  pub counted : length a.reasons.items ≡ length a.trail.items
  pub room : length a.places.items ≡ length a.values
  pub placed : (k : ℕ) → k < length a.trail.items → slice_index_or a.places.items (lit_at a.trail.items k).var 0 ≡ k
  pub reasons : (k n : ℕ) → k < length a.trail.items → slice_index_or a.reasons.items k None ≡ Some n → IsReason all (take k a.trail.items) (lit_at a.trail.items k) n
  pub chosen : (k : ℕ) → k < length a.trail.items → slice_index_or a.reasons.items k None ≡ None → Contains starts k

-- the same of a search
abbrev pub IsReasoned : List (List Lit) → Search → Type 0
IsReasoned all s = AreReasons all s.starts.items s.assignment
