use Rattle.std.proofs.Common.{Ok, take}
use Rattle.bt_io.specs.Bytes.{WritesText}
use Rattle.bt_io.specs.Passages.{passage}
use Rattle.bt_io.specs.declared.fault.WriteFault.{WriteFault}
use Rattle.bt_print.specs.TraceText.{pivot_lines}
use Rattle.bt_print.proofs.traces.print_pivot_lines.Given as goal

-- the lines of the pivots so far were written
abbrev pub invariant-loop-step : goal.invariant-loop-step
invariant-loop-step g l =
    WritesText {T = Unit {0}} {E = WriteFault} (passage g.K.Sink.held g.K.Sink.faults l.fn.sink l.sink) (pivot_lines (take l.step-index l.steps)) (Ok tt)
