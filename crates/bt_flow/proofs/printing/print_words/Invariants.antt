use Rattle.std.proofs.Common.{Ok, ◌++◌, take}
use Rattle.bt_io.specs.Bytes.{WritesText}
use Rattle.bt_io.specs.Passages.{passage}
use Rattle.bt_io.specs.declared.fault.WriteFault.{WriteFault}
use Rattle.bt_flow.specs.inner.Printing.{words}
use Rattle.bt_flow.proofs.printing.print_words.Given as goal

-- the head and the words so far were written
abbrev pub invariant-loop-item : goal.invariant-loop-item
invariant-loop-item g l =
    WritesText {T = Unit {0}} {E = WriteFault} (passage g.K.Sink.held g.K.Sink.faults l.fn.sink l.sink) (l.head ++ words g.T.Spelled.word (take l.item-index l.items)) (Ok tt)
