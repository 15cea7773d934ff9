use Rattle.std.proofs.Common.{◌≡◌, ◌<◌, length, ℕ}
use Rattle.bt_frac.specs.Values.{value_in}
use Rattle.bt_pivot.specs.Tableaus.{with_slots}
use Rattle.bt_simplex.specs.inner.Settling.{IsSettled}
use Rattle.bt_simplex.proofs.settling.settled.Given as goal

abbrev pub invariant-loop-column : goal.invariant-loop-column
invariant-loop-column l = record {
  count : length l.values.items ≡ l.column;
  settled : (j : ℕ) → j < l.column → IsSettled (with_slots l.tableau l.basis) l.epsilon j (value_in l.values.items j);
}
