use Rattle.std.proofs.Common.{◌<◌, ℕ}
use Rattle.bt_pivot.specs.Points.{Fails}
use Rattle.bt_pivot.specs.Tableaus.{with_slots}
use Rattle.bt_pivot.specs.Sums.{AreKept}
use Rattle.bt_simplex.proofs.bland.leaving.Given as goal

abbrev pub invariant-loop-position : goal.invariant-loop-position
invariant-loop-position l = record {
  none : (p : ℕ) → p < l.position → Fails (with_slots l.tableau l.basis) p → ⊥;
  kept : AreKept l.tableau l.basis l.kept.sums.items;
}
