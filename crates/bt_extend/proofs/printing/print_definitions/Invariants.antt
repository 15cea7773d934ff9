use Rattle.std.proofs.Common.{Ok, take}
use Rattle.bt_io.specs.Bytes.{WritesText}
use Rattle.bt_io.specs.Passages.{passage}
use Rattle.bt_io.specs.declared.fault.WriteFault.{WriteFault}
use Rattle.bt_extend.specs.Texts.{definitions_text}
use Rattle.bt_extend.proofs.printing.print_definitions.Given as goal

-- the definitions so far were written
abbrev pub invariant-loop-definition : goal.invariant-loop-definition
invariant-loop-definition g l =
    WritesText {T = Unit {0}} {E = WriteFault} (passage g.K.Sink.held g.K.Sink.faults l.fn.sink l.sink) (definitions_text (take l.definition-index l.definitions)) (Ok tt)
