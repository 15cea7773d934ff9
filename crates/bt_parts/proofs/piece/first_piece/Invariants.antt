use Rattle.bt_parts.specs.inner.Looking.{NoneNearer}
use Rattle.bt_parts.proofs.piece.first_piece.Given as goal

abbrev pub invariant-loop-distance : goal.invariant-loop-distance
invariant-loop-distance g l = NoneNearer (g.L.Layout.parts l.layout) l.from l.toward l.distance
