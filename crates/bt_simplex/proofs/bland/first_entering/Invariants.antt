use Rattle.std.proofs.Common.{drop}
use Rattle.bt_frac.specs.Deltas.{IsOrderOfDeltas}
use Rattle.bt_frac.specs.Rows.{RowParts}
use Rattle.bt_frac.specs.declared.delta.Delta.{Delta}
use Rattle.bt_linear_forms.specs.Lines.{signed_terms}
use Rattle.bt_pivot.specs.Points.{bound_value}
use Rattle.bt_simplex.specs.inner.Bases.{MayEnter}
use Rattle.bt_simplex.proofs.Entering.{IsAhead}
use Rattle.bt_simplex.proofs.bland.first_entering.Given as goal

abbrev pub invariant-loop-index : goal.invariant-loop-index
invariant-loop-index l =
    (row : RowParts) (point : Delta) → IsOrderOfDeltas l.bound (bound_value row) point
    → IsAhead (MayEnter l.tableau row point) (signed_terms l.negated l.line) (drop l.index (signed_terms l.negated l.line))
