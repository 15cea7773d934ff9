use Rattle.bt_recover.specs.inner.Index.{IsIndexOf}
use Rattle.bt_recover.proofs.grid.Grid.place.Given as goal

abbrev pub invariant-loop-i : goal.invariant-loop-i
invariant-loop-i l = IsIndexOf l.part-items l.i l.cells
