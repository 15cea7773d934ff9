use Rattle.std.proofs.Common.{Ok, take}
use Rattle.bt_io.specs.Bytes.{WritesText, joined}
use Rattle.bt_io.specs.Passages.{passage}
use Rattle.bt_io.specs.declared.fault.WriteFault.{WriteFault}
use Rattle.bt_io.proofs.write.write_pieces.Given as goal

-- the pieces so far were written
abbrev pub invariant-loop-piece : goal.invariant-loop-piece
invariant-loop-piece g l =
    WritesText {T = Unit {0}} {E = WriteFault} (passage g.K.Sink.held g.K.Sink.faults l.fn.sink l.sink) (joined (take l.piece-index l.pieces)) (Ok tt)
