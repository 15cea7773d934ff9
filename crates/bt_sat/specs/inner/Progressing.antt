-- A search in progress.
use Rattle.std.specs.Prelude.{◌≡◌, ◌<◌, ◌≤◌, ◌+◌, ◌^◌, ℕ, List, [], ◌∷◌, ◌++◌, None, length}
use Rattle.bt_cnf.specs.Formulas.{IsFormula}
use Rattle.bt_cnf.specs.declared.literal.Lit.{Lit}
use Rattle.bt_cnf.specs.Truths.{unset}
use Rattle.bt_log.specs.Logs.{Step, Learnt}
use Rattle.bt_log.specs.Validity.{AreValid, IsValidStep}
use Rattle.bt_watch.specs.Levels.{Stands}
use Rattle.bt_sat.specs.Freshness.{IsFreshStep}
use Rattle.bt_sat.specs.Solving.{AreFresh, AreNonempty}
use Rattle.bt_sat.specs.declared.logged_formula.LoggedFormula.{LoggedFormula}
use Rattle.bt_sat.specs.declared.progress.Progress.{Progress}
use Rattle.bt_sat.specs.declared.progress.Learning.{Learning}
use Rattle.bt_sat.specs.declared.progress.Learning.TheVariants.{GoesOn, Refutes, Spent}
use Rattle.bt_sat.specs.inner.LoggedFormula.{clauses_in}

-- the log follows the formula, its steps are valid, fresh and not empty, and no more than the limit says
pub record IsLogged (known : LoggedFormula) (limit : ℕ) : Type 0 where
  pub formula : IsFormula known.formula
  pub first : known.log.first ≡ length known.formula.clauses
  pub valid : AreValid known.formula known.formula.clauses known.log.steps
  pub fresh : AreFresh known.formula.clauses known.log.steps
  pub nonempty : AreNonempty known.log.steps
  pub within : length known.log.steps ≤ limit

-- one more step is valid and fresh
pub record IsNextStep (known : LoggedFormula) (step : Step) : Type 0 where
  pub valid : IsValidStep known.formula (clauses_in known) step
  pub fresh : IsFreshStep (clauses_in known) step

-- the search may go on
pub record IsRunning (p : Progress) : Type 0 where
  pub logged : IsLogged p.known p.limit
  pub variables : length p.search.assignment.values ≡ p.known.formula.vars
  pub stands : Stands (clauses_in p.known) p.propagated p.search p.conflict

-- the log has one step more
pub record LogsStep (old new : LoggedFormula) (step : Step) : Type 0 where
  pub formula : new.formula ≡ old.formula
  pub log : new.log ≡ record { first = old.log.first; steps = old.log.steps ++ step ∷ [] }

-- the log has room for a step, and its steps can be counted
pub record HasRoom (p : Progress) : Type 0 where
  pub room : length p.known.log.steps < p.limit
  pub counts : length p.known.log.steps + 1 < 2 ^ 64

-- what comes of a conflict: a clause was learnt and the search goes on, or it is the empty clause, or the log has no
-- room for it
abbrev pub Learns : Progress → Progress → Learning → Type 0
Learns old new GoesOn =
    IsRunning new × (new.conflict ≡ None) × HasRoom old × (new.limit ≡ old.limit)
    × ((hints : List ℕ) × LogsStep old.known new.known (Learnt new.learnt_clause.lits.items hints) × IsNextStep old.known (Learnt new.learnt_clause.lits.items hints))
Learns old new Refutes =
    (new.limit ≡ old.limit) × HasRoom old × (new.learnt_clause.lits.items ≡ [])
    × ((hints : List ℕ) × LogsStep old.known new.known (Learnt [] hints) × IsNextStep old.known (Learnt [] hints))
Learns old new Spent =
    (new.known ≡ old.known) × (new.limit ≡ old.limit) × (length old.known.log.steps ≡ old.limit)
    × ((step : Step) × IsNextStep old.known step)

-- literals were added to the trail, and the order of variables stays
pub record Grows (old new : Progress) : Type 0 where
  pub more : List Lit
  pub trail : new.search.assignment.trail.items ≡ old.search.assignment.trail.items ++ more
  pub order : new.order ≡ old.order

-- what is true was propagated: all of the trail, or a clause has only false literals
pub record PropagatesAll (old new : Progress) : Type 0 where
  pub running : IsRunning new
  pub known : new.known ≡ old.known
  pub limit : new.limit ≡ old.limit
  pub propagated : new.conflict ≡ None → new.propagated ≡ length new.search.assignment.trail.items
  pub fewer : unset new.search.assignment.values ≤ unset old.search.assignment.values
  pub grows : Grows old new

-- the log is of the same formula
pub record KeepsFormula (old new : Progress) : Type 0 where
  pub formula : new.known.formula ≡ old.known.formula
  pub first : new.known.log.first ≡ old.known.log.first
