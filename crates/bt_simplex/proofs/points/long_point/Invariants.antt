use Rattle.std.proofs.Common.{Some, take}
use Rattle.bt_pivot.specs.Points.{resting, standing, IsSamePoint}
use Rattle.bt_simplex.proofs.points.long_point.Given as goal

abbrev pub invariant-loop-index : goal.invariant-loop-index
invariant-loop-index l = IsSamePoint l.sum (standing (resting l.tableau) 0 (Some (take l.index l.line)))
