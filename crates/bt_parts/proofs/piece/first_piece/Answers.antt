use Rattle.std.proofs.Common.{arith}
use Rattle.bt_parts.proofs.Pieces.{none_more}
use Rattle.bt_parts.proofs.piece.first_piece.Goals as goal

pub loop-distance-preserved : goal.loop-distance-preserved
loop-distance-preserved g c =
    none_more _ c.args.from.now c.args.toward c.loop-distance.distance c.loop-distance.invariant (rw c.ahead-cell.ensures at c.in_default.ensures)

pub returns : goal.returns
returns g c = λ d i some lt. c.loop-distance.invariant d i some (omega arith)
