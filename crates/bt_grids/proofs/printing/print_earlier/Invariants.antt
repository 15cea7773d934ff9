use Rattle.std.proofs.Common.{Ok, ◌++◌, [], take}
use Rattle.bt_io.specs.Bytes.{WritesText}
use Rattle.bt_io.specs.Passages.{passage}
use Rattle.bt_io.specs.declared.fault.WriteFault.{WriteFault}
use Rattle.bt_grids.specs.SmallestText.{earlier_text}
use Rattle.bt_grids.proofs.printing.print_earlier.Given as goal

-- the grids so far were written
abbrev pub invariant-loop-one : goal.invariant-loop-one
invariant-loop-one g l =
    WritesText {T = Unit {0}} {E = WriteFault} (passage g.K.Sink.held g.K.Sink.faults l.fn.sink l.sink) ([] ++ earlier_text (take l.one-index l.earlier)) (Ok tt)
