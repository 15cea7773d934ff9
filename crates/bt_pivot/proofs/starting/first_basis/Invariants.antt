use Rattle.std.proofs.Common.{◌≡◌, ◌++◌, drop, map, Some}
use Rattle.bt_pivot.specs.inner.Starts.{kept, start_slots}
use Rattle.bt_pivot.proofs.starting.first_basis.Given as goal

abbrev pub invariant-loop-row : goal.invariant-loop-row
invariant-loop-row l = l.basis ++ map (λ row. Some (kept row.terms)) (drop l.row-index l.rows) ≡ start_slots l.rows l.columns
