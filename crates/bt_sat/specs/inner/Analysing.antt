-- How a conflict is traced back to what was chosen.
use Rattle.std.specs.Prelude.{◌≡◌, ◌≢◌, ◌⊎◌, ◌↔◌, ◌+◌, ◌-◌, ◌<◌, ◌≤◌, ℕ, List, [], Option, Some, None, length, map, reverse, slice_index_or, Contains}
use Rattle.std.specs.List.{All}
use Rattle.bt_cnf.specs.declared.literal.Lit.{Lit}
use Rattle.bt_cnf.specs.Units.{opposite, clause_at}
use Rattle.bt_log.specs.Units.{UnitsRefute}
use Rattle.bt_watch.specs.declared.search.Search.{Search}
use Rattle.bt_watch.specs.Levels.{start_of}
use Rattle.bt_watch.specs.Reasons.{lit_at}
use Rattle.bt_sat.specs.declared.analysis.ConflictLevel.{ConflictLevel}
use Rattle.bt_watch.specs.Agendas.{Takes, Reaches}

-- the literal that is false at a place of the trail
abbrev pub false_at : List Lit → ℕ → Lit
false_at trail place = opposite (lit_at trail place)

-- the literals that are false at these places
abbrev pub falses_at : List Lit → List ℕ → List Lit
falses_at trail places = map (false_at trail) places

-- one of the first so many literals of the clause has this place, and it isn't the one that is left out
abbrev pub IsSeen : List ℕ → List Lit → ℕ → ℕ → ℕ → Type 0
IsSeen places clause but count place = (i : ℕ) × (i < count) × (slice_index_or places (lit_at clause i).var 0 ≡ place) × (place ≢ but)

-- the places of the clause's literals are on the agenda, but for one
abbrev pub MarksSeen : List ℕ → List Lit → ℕ → List ℕ → List ℕ → Type 0
MarksSeen places clause but old new = (k : ℕ) → Contains new k ↔ (Contains old k ⊎ IsSeen places clause but (length clause) k)

-- these literals are false; among them are those on the agenda and those that were picked, and beyond the bound no
-- others
pub record IsUnderway (trail : List Lit) (agenda picked : List ℕ) (bound : ℕ) (falses : List Lit) : Type 0 where
  pub among : (m : Lit) → Contains falses m → Contains trail (opposite m)
  pub waits : (k : ℕ) → Contains agenda k → Contains falses (false_at trail k)
  pub picks : (k : ℕ) → Contains picked k → Contains falses (false_at trail k)
  pub beyond : (k : ℕ) → bound ≤ k → k < length trail → Contains falses (false_at trail k) → Contains picked k

-- the hints, taken backwards, lead from such literals to a false clause; all on the agenda is before the bound, and all
-- that was picked beyond it, the greatest first
pub record IsDerived (all : List (List Lit)) (trail : List Lit) (agenda picked : List ℕ) (bound : ℕ) (hints : List ℕ) : Type 0 where
  pub refutes : (falses : List Lit) → IsUnderway trail agenda picked bound falses → UnitsRefute falses (map (clause_at all) (reverse hints))
  pub numbers : All (λ n. n < length all) hints
  pub before : (k : ℕ) → Contains agenda k → k < bound
  pub bounded : bound ≤ length trail
  pub after : (k : ℕ) → Contains picked k → (bound ≤ k) × (k < length trail)
  pub descend : (i j : ℕ) → i < j → j < length picked → slice_index_or picked j 0 < slice_index_or picked i 0

-- of the places at one level one alone is picked, the first; until then one is on the agenda
pub record IsLevelled (s : Search) (conflict_level : ConflictLevel) (agenda picked : List ℕ) : Type 0 where
  pub level : ℕ
  pub within : level < length s.starts.items
  pub current : conflict_level.current ≡ start_of s level
  pub under : (k : ℕ) → Contains agenda k → k < start_of s (level + 1)
  pub none : picked ≡ [] → Reaches agenda conflict_level.current
  pub first : 0 < length picked → conflict_level.current ≤ slice_index_or picked 0 0
  pub rest : (i : ℕ) → 0 < i → i < length picked → slice_index_or picked i 0 < conflict_level.current
  pub left : 0 < length picked → (k : ℕ) → Contains agenda k → k < conflict_level.current

-- nothing is picked, and all on the agenda was true before the first choice
pub record IsGrounded (s : Search) (agenda picked : List ℕ) : Type 0 where
  pub none : picked ≡ []
  pub under : (k : ℕ) → Contains agenda k → k < start_of s 0

-- what is kept true while a conflict is traced back
pub record IsTracing (all : List (List Lit)) (s : Search) (conflict_level : ConflictLevel) (agenda picked : List ℕ) (bound : ℕ) (hints : List ℕ) : Type 0 where
  pub derived : IsDerived all s.assignment.trail.items agenda picked bound hints
  pub root : conflict_level.root ≡ start_of s 0
  pub cuts : IsGrounded s agenda picked ⊎ IsLevelled s conflict_level agenda picked

-- the greatest place was taken off the agenda
pub record IsTaken (all : List (List Lit)) (s : Search) (conflict_level : ConflictLevel) (place : ℕ) (agenda picked hints : List ℕ) : Type 0 where
  pub before : List ℕ
  pub bound : ℕ
  pub tracing : IsTracing all s conflict_level before picked bound hints
  pub takes : Takes before (Some place) agenda

-- the literal at a place is traced back: it was true before the first choice, or another of its level waits
abbrev pub IsTraced : ConflictLevel → List ℕ → ℕ → Type 0
IsTraced conflict_level agenda place = (place < conflict_level.root) ⊎ ((conflict_level.current ≤ place) × Reaches agenda conflict_level.current)

-- the literal at a place may be traced back: it has to be, or it was true before the conflict's level
abbrev pub MayTrace : ConflictLevel → List ℕ → ℕ → Type 0
MayTrace conflict_level agenda place = IsTraced conflict_level agenda place ⊎ (place < conflict_level.current)

-- the reason of the literal at a place, where it is traced back; one that has to be is, but where it was chosen
abbrev pub IsReasonFor : Search → ConflictLevel → List ℕ → ℕ → Option ℕ → Type 0
IsReasonFor s conflict_level agenda place (Some n) = MayTrace conflict_level agenda place × (slice_index_or s.assignment.reasons.items place None ≡ Some n)
IsReasonFor s conflict_level agenda place None = (IsTraced conflict_level agenda place → ⊥) ⊎ (slice_index_or s.assignment.reasons.items place None ≡ None)

-- where the literals at the picked places are false, the hints lead to a false clause; the first place is the only one
-- from where a level begins on
pub record IsLearnable (all : List (List Lit)) (s : Search) (picked hints : List ℕ) : Type 0 where
  pub units : UnitsRefute (falses_at s.assignment.trail.items picked) (map (clause_at all) hints)
  pub numbers : All (λ n. n < length all) hints
  pub within : (k : ℕ) → Contains picked k → k < length s.assignment.trail.items
  pub descend : (i j : ℕ) → i < j → j < length picked → slice_index_or picked j 0 < slice_index_or picked i 0
  pub level : ℕ
  pub known : 0 < length picked → level < length s.starts.items
  pub first : 0 < length picked → start_of s level ≤ slice_index_or picked 0 0
  pub rest : (i : ℕ) → 0 < i → i < length picked → slice_index_or picked i 0 < start_of s level

-- the level of a conflict is that of its greatest place
pub record IsConflictLevel (s : Search) (agenda : List ℕ) (conflict_level : ConflictLevel) : Type 0 where
  pub root : conflict_level.root ≡ start_of s 0
  pub cuts : IsGrounded s agenda [] ⊎ IsLevelled s conflict_level agenda []

-- all on the agenda is before the level of this number, counted from 1 on, ends, and where there is such a level, one
-- place isn't before it begins
pub record IsTopLevel (s : Search) (agenda : List ℕ) (level : ℕ) : Type 0 where
  pub within : level ≤ length s.starts.items
  pub under : (k : ℕ) → Contains agenda k → k < start_of s level
  pub reached : 0 < level → Reaches agenda (start_of s (level - 1))
