use Rattle.std.proofs.Common.{Ok, ◌++◌, take}
use Rattle.bt_io.specs.Bytes.{WritesText}
use Rattle.bt_io.specs.Passages.{passage}
use Rattle.bt_io.specs.declared.fault.WriteFault.{WriteFault}
use Rattle.bt_print.specs.TraceText.{numbers_text}
use Rattle.bt_print.proofs.traces.print_words.Given as goal

-- the word and the numbers so far were written
abbrev pub invariant-loop-number : goal.invariant-loop-number
invariant-loop-number g l =
    WritesText {T = Unit {0}} {E = WriteFault} (passage g.K.Sink.held g.K.Sink.faults l.fn.sink l.sink) (l.word ++ numbers_text (take l.number-index l.numbers)) (Ok tt)
