-- What the trace that is written where a search gives up tells of the formula.
use Rattle.std.specs.Prelude.{◌≡◌, ◌<◌, ◌≤◌, ℕ, length}
use Rattle.bt_cnf.specs.Formulas.{FormulaParts}
use Rattle.bt_simplex.specs.Causes.{IsCause}
use Rattle.bt_simplex.specs.Checks.{bound_from, cause_of}
use Rattle.bt_simplex.specs.Counting.{most_bases}
use Rattle.bt_pivot.specs.SolvedForms.{basis_of}
use Rattle.bt_pivot.specs.Tableaus.{TableauParts}
use Rattle.bt_simplex.specs.Pivots.{IsFinal, Follows}
use Rattle.bt_simplex.specs.declared.answers.PivotTrace.{PivotTrace}
use Rattle.bt_simplex.specs.declared.answers.Wide.{Wide}
use Rattle.bt_theory.specs.Reaching.{atom_rows, columns_of, IsTableauOf, IsGuided, IsReachable}

-- the trace is one of the formula, and leads to the last tableau. The first tableau has the formula's rows and columns
-- (`tableau`); bound are the rows of the atoms that are true under an assignment that gives every clause a true literal
-- (`guided`); and its basis is the one of the rows alone, or one that pivots of Bland's rule for such assignments lead
-- to from there (`reachable`). The line `start` has the positions of this basis, the line `bound` the bound rows, and
-- each line `turn` the pivot of Bland's rule that is due after those before it
pub record IsTraceOf (f : FormulaParts) (trace : PivotTrace) (last : TableauParts) : Type 0 where
  pub first : TableauParts
  pub tableau : IsTableauOf f first
  pub guided : IsGuided f first
  pub reachable : IsReachable f (basis_of first.slots)
  pub start : trace.start.items ≡ basis_of first.slots
  pub bound : trace.bound.items ≡ bound_from 0 first.bound
  pub steps : Follows first trace.steps.items last

-- the trace has so many pivots, which are fewer than there are bases, and the basis that they lead to isn't final: one
-- more pivot is due
pub record PivotsOn (f : FormulaParts) (pivots : ℕ) (trace : PivotTrace) : Type 0 where
  pub last : TableauParts
  pub trace_is : IsTraceOf f trace last
  pub many : length trace.steps.items ≡ pivots
  pub few : pivots < most_bases (columns_of f) (atom_rows f)
  pub goes_on : IsFinal last → ⊥

-- the trace has at most so many pivots, which lead to the named basis, of whose solved form the two numbers are, and
-- what the operation makes of these leaves 128 bits
pub record IsTooWide (f : FormulaParts) (pivots : ℕ) (at : Wide) : Type 0 where
  pub last : TableauParts
  pub trace_is : IsTraceOf f at.trace last
  pub few : length at.trace.steps.items ≤ pivots
  pub basis : at.basis.items ≡ basis_of last.slots
  pub cause : IsCause last (cause_of at)
