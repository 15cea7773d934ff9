-- Fresh steps: those whose clauses don't follow at once from the clauses before.
use Rattle.std.specs.Prelude.{◌≡◌, ◌≢◌, ◌⊎◌, ◌↔◌, ℕ, Bool, List, [], Contains}
use Rattle.std.specs.List.{All}
use Rattle.bt_cnf.specs.Meeting.{IsTrueUnder, MeetsClause}
use Rattle.bt_cnf.specs.declared.literal.Lit.{Lit}
use Rattle.bt_log.specs.Logs.{Step, Lemma, Learnt}
use Rattle.bt_watch.specs.Propagation.{MeetsFalse, MakesTrue}

-- the literals of a clause but one
abbrev pub AreOthers : List Lit → Lit → List Lit → Type 0
AreOthers lits x others = (l : Lit) → Contains others l ↔ (Contains lits l × (l ≢ x))

-- propagation begins with every other literal of the clause false, and neither meets a false clause nor makes
-- this literal true
pub record IsOpen (clauses : List (List Lit)) (lits : List Lit) (x : Lit) : Type 0 where
  pub among : Contains lits x
  pub others : List Lit
  pub are_others : AreOthers lits x others
  pub no_false : MeetsFalse clauses others → ⊥
  pub not_made : MakesTrue clauses others x → ⊥

-- a learnt clause is empty, or propagation over the clauses before doesn't come to it
abbrev pub IsFreshLearnt : List (List Lit) → List Lit → Type 0
IsFreshLearnt clauses lits = (lits ≡ []) ⊎ ((x : Lit) × IsOpen clauses lits x)

-- an assignment makes no clause before false, and makes the lemma's clause false
pub record IsFreshLemma (clauses : List (List Lit)) (lits : List Lit) : Type 0 where
  pub assignment : ℕ → Bool
  pub meets : All (λ clause. MeetsClause assignment clause) clauses
  pub unmet : All (λ l. IsTrueUnder assignment l → ⊥) lits

-- the step is fresh after these clauses
abbrev pub IsFreshStep : List (List Lit) → Step → Type 0
IsFreshStep clauses (Lemma lits weights) = IsFreshLemma clauses lits
IsFreshStep clauses (Learnt lits hints) = IsFreshLearnt clauses lits
