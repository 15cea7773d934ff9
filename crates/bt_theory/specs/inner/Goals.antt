-- What trying a goal makes of a search.
use Rattle.std.specs.Prelude.{◌≡◌, ◌<◌, ◌≤◌, ℕ, Bool, true, false, List, length, Option, Some, None}
use Rattle.std.specs.List.{All}
use Rattle.bt_cnf.specs.Assignments.{truth_in}
use Rattle.bt_cnf.specs.Formulas.{FormulaParts}
use Rattle.bt_cnf.specs.declared.literal.Lit.{Lit}
use Rattle.bt_sat.specs.Solving.{SolverParts}
use Rattle.bt_theory.specs.Outcomes.{Fits}
use Rattle.bt_theory.specs.declared.base.Base.{Base}
use Rattle.bt_theory.specs.declared.goal.Tried.{Tried}
use Rattle.bt_theory.specs.declared.goal.Tried.TheVariants as tried
use Rattle.bt_theory.specs.declared.lemma.Conflict.{Conflict}
use Rattle.bt_theory.specs.declared.round.End.{End}
use Rattle.bt_theory.specs.inner.Rounds.{IsEnd}
use Rattle.bt_theory.specs.inner.Scopes.{IsConflict}

-- the sums of all lemmas fit
abbrev pub AllFit : SolverParts → Type 0
AllFit s = All (Fits s.formula) s.steps

-- the search is of the same formula
pub record IsOfSame (old new : SolverParts) : Type 0 where
  pub formula : new.formula ≡ old.formula
  pub limit : new.limit ≡ old.limit

-- the search goes on, with as many steps or more, which are no more than the limit says
pub record GoesOn (old new : SolverParts) : Type 0 where
  pub same : IsOfSame old new
  pub fits : AllFit new
  pub more : length old.steps ≤ length new.steps
  pub within : length new.steps ≤ new.limit

-- what one try at a goal comes to: the search goes on, with more steps where it is worth another try, or it is at an
-- end, however much stands before the definitions
abbrev pub IsTry : ℕ → SolverParts → SolverParts → Tried → Type 0
IsTry pivots old new tried.Done = GoesOn old new
IsTry pivots old new tried.Again = GoesOn old new × (length old.steps < length new.steps)
IsTry pivots old new (tried.Ends e) = IsOfSame old new × ((b : Base) → IsEnd pivots b new e)

-- what trying goals comes to: the search goes on or is at an end
abbrev pub IsTried : ℕ → SolverParts → SolverParts → Option End → Type 0
IsTried pivots old new None = GoesOn old new
IsTried pivots old new (Some e) = IsOfSame old new × ((b : Base) → IsEnd pivots b new e)

-- the conflict is one of the formula under some assignment
pub record IsPossible (f : FormulaParts) (conflict : Conflict) : Type 0 where
  pub assignment : List Bool
  pub is : IsConflict f assignment conflict

-- the literal negates an atom that is true under the assignment
abbrev pub IsNegated : List Bool → Lit → Type 0
IsNegated assignment l = (l.positive ≡ false) × (truth_in assignment l.var ≡ true)

-- so do all of them
abbrev pub AreNegated : List Bool → List Lit → Type 0
AreNegated assignment lits = All (IsNegated assignment) lits

-- worth another try where the log has grown from so many steps to so many
abbrev pub IsGrown : ℕ → ℕ → Tried → Type 0
IsGrown before now tried.Again = before < now
IsGrown before now tried.Done = Unit {0}
IsGrown before now (tried.Ends e) = ⊥
