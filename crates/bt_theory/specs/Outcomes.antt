-- What is right to say of a formula that is decided within limits.
use Rattle.std.specs.Prelude.{◌≡◌, ◌<◌, ◌≤◌, ◌^◌, ℕ, Bool, List, [], ◌∷◌, ◌++◌, length, map, true, Ok}
use Rattle.std.specs.List.{All, AllZip, zip}
use Rattle.bt_frac.specs.Ratio.{Ratio}
use Rattle.bt_frac.specs.Rows.{RowParts}
use Rattle.bt_frac.specs.Values.{value_in}
use Rattle.bt_farkas.specs.Farkas.{IsFarkas}
use Rattle.bt_cnf.specs.Formulas.{FormulaParts}
use Rattle.bt_cnf.specs.Assignments.{truth_in}
use Rattle.bt_cnf.specs.Meeting.{Meets}
use Rattle.bt_cnf.specs.declared.literal.Lit.{Lit}
use Rattle.bt_extend.specs.Extending.{extended}
use Rattle.bt_extend.specs.declared.definition.Definition.{Definition}
use Rattle.bt_log.specs.Logs.{Step, Lemma, Learnt, clause_of}
use Rattle.bt_log.specs.Validity.{NegatesAtom, IsValidStep, AreValid}
use Rattle.bt_log.specs.Refuting.{Refutes}
use Rattle.bt_sat.specs.Freshness.{IsFreshStep}
use Rattle.bt_sat.specs.Solving.{AreFresh, AreNonempty}
use Rattle.bt_cnf.specs.declared.limits.Limits.{Limits}
use Rattle.bt_log.specs.Trimming.{IsTightOver}
use Rattle.bt_theory.specs.declared.outcome.Outcome.{Outcome}
use Rattle.bt_theory.specs.declared.outcome.Outcome.TheVariants as outcome
use Rattle.bt_theory.specs.declared.outcome.Solution.{Solution}
use Rattle.bt_theory.specs.declared.outcome.GaveUp.{GaveUp}
use Rattle.bt_theory.specs.declared.outcome.GaveUp.TheVariants.{Spent, Pivots, Wide}
use Rattle.bt_theory.specs.Reaching.{columns_of}
use Rattle.bt_theory.specs.PivotTraces.{PivotsOn, IsTooWide}

-- each column has a value and each variable a truth value, and together they meet the formula
pub record IsSolution (f : FormulaParts) (values : List Ratio) (assignment : List Bool) : Type 0 where
  pub columns : length values ≡ columns_of f
  pub variables : length assignment ≡ f.vars
  pub meets : Meets f (truth_in assignment) (value_in values)

-- the solution is one of the formula
abbrev pub Solves : FormulaParts → Solution → Type 0
Solves f solution = IsSolution f solution.values.items solution.assignment.items

-- the rows of a lemma's atoms with its weights add up to a row that no values meet, and each product and sum fits
pub record FitsLemma (f : FormulaParts) (lits : List Lit) (weights : List Ratio) : Type 0 where
  pub rows : List RowParts
  pub negated : AllZip (NegatesAtom f) lits rows
  pub accepted : IsFarkas (zip rows weights) (Ok true)

-- where the step is a lemma, its sum fits
abbrev pub Fits : FormulaParts → Step → Type 0
Fits f (Lemma lits weights) = FitsLemma f lits weights
Fits f (Learnt lits hints) = Unit {0}

-- each step is valid and fresh after the formula's clauses and the earlier steps, none before the last is empty, and
-- the sum of each lemma fits
pub record IsSound (f : FormulaParts) (steps : List Step) : Type 0 where
  pub valid : AreValid f f.clauses steps
  pub fresh : AreFresh f.clauses steps
  pub nonempty : (front : List Step) (last : Step) → steps ≡ front ++ last ∷ [] → AreNonempty front
  pub fits : All (Fits f) steps

-- the log is sound and refutes the formula
pub record IsRefutation (f : FormulaParts) (steps : List Step) : Type 0 where
  pub sound : IsSound f steps
  pub refutes : Refutes f steps

-- the log is sound and has so many steps, of which none is empty, and one more would be valid and fresh; over v
-- variables these are fewer than 3 ^ v
pub record IsUsedUp (f : FormulaParts) (limit : ℕ) (steps : List Step) : Type 0 where
  pub sound : IsSound f steps
  pub full : length steps ≡ limit
  pub few : limit < 3 ^ f.vars
  pub nonempty : AreNonempty steps
  pub more : Step
  pub valid : IsValidStep f (f.clauses ++ map clause_of steps) more
  pub fresh : IsFreshStep (f.clauses ++ map clause_of steps) more

-- it is right to give up: the log over the further formula is used up, or the pivots for one assignment of the formula
-- are, or a number leaves 128 bits
abbrev pub IsGivenUpOver : FormulaParts → FormulaParts → Limits → GaveUp → Type 0
IsGivenUpOver f g limits (Spent log) = IsUsedUp g limits.learnt log.steps
IsGivenUpOver f g limits (Pivots trace) = PivotsOn f limits.pivots trace
IsGivenUpOver f g limits (Wide at) = IsTooWide f limits.pivots at

-- each is the place of a row among the formula's rows
abbrev pub AreRowsOf : FormulaParts → List ℕ → Type 0
AreRowsOf f rows = All (λ row. row < length f.atoms) rows

-- what is right to say of a formula within limits, where the search is over a further formula: a solution, pivots and
-- numbers are those of the formula, and logs are over the further one; of a log that refutes it each step but the last
-- is needed
abbrev pub IsOutcomeOver : FormulaParts → FormulaParts → Limits → Outcome → Type 0
IsOutcomeOver f g limits (outcome.Sat values assignment) = IsSolution f values.items assignment.items
IsOutcomeOver f g limits (outcome.Refuted log) = IsRefutation g log.steps × (length log.steps ≤ limits.learnt) × IsTightOver g log
IsOutcomeOver f g limits (outcome.GaveUp cause) = IsGivenUpOver f g limits cause

-- what is right to say of a formula within limits, where the search is over the formula that definitions extend
abbrev pub IsOutcome : FormulaParts → List Definition → Limits → Outcome → Type 0
IsOutcome f definitions limits o = IsOutcomeOver f (extended f definitions) limits o
