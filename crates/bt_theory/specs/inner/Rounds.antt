-- One round of a search: a model, what is chosen of it, and what the tableau says of the rows that are bound.
use Rattle.std.specs.Prelude.{◌≡◌, ℕ, ◌<◌, ◌≤◌, Bool, List, [], ◌∷◌, length, map, take, Option, Some, None}
use Rattle.std.specs.List.{All}
use Rattle.bt_frac.specs.Ratio.{IsLowest}
use Rattle.bt_cnf.specs.Formulas.{FormulaParts}
use Rattle.bt_log.specs.Logs.{Lemma, LogParts}
use Rattle.bt_sat.specs.Solving.{SolverParts, log_of, KeepsModel, IsModel, IsSoundLog, IsSpent, IsLemmaOf, GoesOnBy}
use Rattle.bt_pivot.specs.SolvedForms.{basis_of}
use Rattle.bt_pivot.specs.Tableaus.{TableauParts, positions_from}
use Rattle.bt_theory.specs.Reaching.{atom_rows, columns_of, IsTableauOf, IsReachable}
use Rattle.bt_theory.specs.Outcomes.{Solves, Fits, IsRefutation, IsUsedUp, IsOutcomeOver}
use Rattle.bt_theory.specs.PivotTraces.{PivotsOn, IsTooWide}
use Rattle.bt_theory.specs.declared.base.Base.{Base}
use Rattle.bt_theory.specs.declared.lemma.Conflict.{Conflict}
use Rattle.bt_theory.specs.declared.outcome.Outcome.{Outcome}
use Rattle.bt_theory.specs.declared.outcome.Outcome.TheVariants as outcome
use Rattle.bt_log.specs.Trimming.{IsTrimmed}
use Rattle.bt_theory.specs.inner.Bases.{base_in}
use Rattle.bt_theory.specs.inner.Choosing.{IsChosen}
use Rattle.bt_theory.specs.inner.Scopes.{IsScopeOf, parts_of}
use Rattle.bt_theory.specs.declared.solving.Tables.{Tables}
use Rattle.bt_theory.specs.declared.round.End.{End}
use Rattle.bt_theory.specs.declared.round.End.TheVariants as end

-- the first tableau of a formula
pub record IsFirst (f : FormulaParts) (t : TableauParts) : Type 0 where
  pub tableau : IsTableauOf f t
  pub basis : basis_of t.slots ≡ positions_from (columns_of f) (atom_rows f)

-- the tables are those of a formula at the start of a search: the scopes are of its rows, and the tableau is of those
-- before the definitions
pub record AreTablesOf (b : Base) (g : FormulaParts) (tables : Tables) : Type 0 where
  pub scopes : All (IsScopeOf g) (map parts_of tables.scopes.items)
  pub tableau : IsFirst (base_in b g) tables.tableau

-- between rounds: the tableau is one of the rows before the definitions at a reachable basis, and the sums of all
-- lemmas fit
pub record IsReady (b : Base) (s : SolverParts) (t : TableauParts) : Type 0 where
  pub tableau : IsTableauOf (base_in b s.formula) t
  pub reachable : IsReachable (base_in b s.formula) (basis_of t.slots)
  pub fits : All (Fits s.formula) s.steps

-- the search keeps the model, and its log is sound
pub record HasModel (s : SolverParts) (model : List Bool) : Type 0 where
  pub keeps : s.status ≡ KeepsModel model
  pub is_model : IsModel s model
  pub sound : IsSoundLog s

-- so much is chosen, before the definitions, of the model that the search keeps
pub record HasChosen (b : Base) (s : SolverParts) (chosen : List Bool) : Type 0 where
  pub model : List Bool
  pub has : HasModel s model
  pub chose : IsChosen (take b.vars model) chosen (base_in b s.formula).clauses

-- the conflict makes a lemma, where the weights are fractions in lowest terms
abbrev pub MakesLemma : SolverParts → Conflict → Type 0
MakesLemma s conflict = All IsLowest conflict.weights.items → IsLemmaOf s conflict.lits.items conflict.weights.items

-- what is right to say at the end of a search
abbrev pub IsEnd : ℕ → Base → SolverParts → End → Type 0
IsEnd pivots b s (end.Sat solution) = Solves (base_in b s.formula) solution
IsEnd pivots b s end.Refuted = IsRefutation s.formula s.steps × (length s.steps ≤ s.limit)
IsEnd pivots b s end.Spent = IsUsedUp s.formula s.limit s.steps
IsEnd pivots b s (end.Pivots trace) = PivotsOn (base_in b s.formula) pivots trace
IsEnd pivots b s (end.Wide at) = IsTooWide (base_in b s.formula) pivots at

-- what became of the lemma of the conflict: it was added, or the log is full
abbrev pub IsLemmaLearnt : SolverParts → SolverParts → Conflict → Option End → Type 0
IsLemmaLearnt old new conflict None = GoesOnBy (Lemma conflict.lits.items conflict.weights.items ∷ []) old new × IsSoundLog new
IsLemmaLearnt old new conflict (Some end.Spent) = (new ≡ old) × IsSpent old
IsLemmaLearnt old new conflict (Some other) = ⊥

-- the search may go on, with more steps, or it is at an end
abbrev pub GoesOnOrEnds : ℕ → Base → SolverParts → SolverParts → TableauParts → Option End → Type 0
GoesOnOrEnds pivots b old new t None = IsReady b new t × (length old.steps < length new.steps) × (length new.steps ≤ new.limit)
GoesOnOrEnds pivots b old new t (Some e) = IsEnd pivots b new e

-- the formula and the limit stay, and the search goes on or is at an end
pub record IsRound (pivots : ℕ) (b : Base) (old new : SolverParts) (t : TableauParts) (said : Option End) : Type 0 where
  pub formula : new.formula ≡ old.formula
  pub limit : new.limit ≡ old.limit
  pub says : GoesOnOrEnds pivots b old new t said

-- where it is right to end a search with this log so, it is right to say this of what stands before the definitions
abbrev pub Tells : End → LogParts → Outcome → Type 0
Tells e log o = (pivots : ℕ) (b : Base) (s : SolverParts) → log ≡ log_of s → IsEnd pivots b s e
    → IsOutcomeOver (base_in b s.formula) s.formula (record { learnt = s.limit; pivots = pivots }) o

-- the log is told, without the steps that its last one doesn't need
abbrev pub IsTrimmedTo : LogParts → Outcome → Type 0
IsTrimmedTo log (outcome.Refuted left) = IsTrimmed log left
IsTrimmedTo log other = ⊥
