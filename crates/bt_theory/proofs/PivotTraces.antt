-- What a check of a tableau of the formula tells where it gives up is the formula's trace.
use Rattle.std.proofs.Common.{ℕ, ◌<◌, subst}
use Rattle.bt_cnf.specs.Formulas.{FormulaParts}
use Rattle.bt_simplex.specs.Checks.{StartsAt, IsPivots, IsWideCheck}
use Rattle.bt_simplex.specs.Counting.{most_bases}
use Rattle.bt_pivot.specs.Tableaus.{TableauParts}
use Rattle.bt_simplex.specs.Pivots.{Follows}
use Rattle.bt_simplex.specs.declared.answers.PivotTrace.{PivotTrace}
use Rattle.bt_simplex.specs.declared.answers.Wide.{Wide}
use Rattle.bt_theory.specs.Reaching.{columns_of}
use Rattle.bt_theory.specs.PivotTraces.{IsTraceOf, PivotsOn, IsTooWide}
use Rattle.bt_theory.proofs.Reached.{IsReached}

module _ (f : FormulaParts) (t : TableauParts) (reached : IsReached f t) where
  trace_of : (trace : PivotTrace) (last : TableauParts) → StartsAt t trace → Follows t trace.steps.items last → IsTraceOf f trace last
  trace_of trace last starts follows = record {
    first = t;
    tableau = reached.tableau;
    guided = reached.guided;
    reachable = reached.reachable;
    start = starts.start;
    bound = starts.bound;
    steps = follows;
  }

  pub pivoted_on : (pivots : ℕ) (trace : PivotTrace) → IsPivots pivots t trace → PivotsOn f pivots trace
  pivoted_on pivots trace is = record {
    last = is.goes_on.last;
    trace_is = trace_of trace is.goes_on.last is.starts is.goes_on.follows;
    many = is.goes_on.many;
    few = subst (λ rows. pivots < most_bases (columns_of f) rows) reached.tableau.rows
        (subst (λ n. pivots < most_bases n t.rows) reached.tableau.columns is.few);
    goes_on = is.goes_on.goes_on;
  }

  pub too_wide : (pivots : ℕ) (at : Wide) → IsWideCheck pivots t at → IsTooWide f pivots at
  too_wide pivots at is = record {
    last = is.last;
    trace_is = trace_of at.trace is.last is.starts is.follows;
    few = is.few;
    basis = is.basis;
    cause = is.cause;
  }
