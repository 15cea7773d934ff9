use Rattle.std.proofs.Common.{Ok, take}
use Rattle.bt_io.specs.Bytes.{WritesText}
use Rattle.bt_io.specs.Passages.{passage}
use Rattle.bt_io.specs.declared.fault.WriteFault.{WriteFault}
use Rattle.bt_log.specs.LogText.{words}
use Rattle.bt_print.specs.FormulaText.{term_text}
use Rattle.bt_print.proofs.rows.print_terms.Given as goal

-- the terms so far were written
abbrev pub invariant-loop-term : goal.invariant-loop-term
invariant-loop-term g l =
    WritesText {T = Unit {0}} {E = WriteFault} (passage g.K.Sink.held g.K.Sink.faults l.fn.sink l.sink) (words (term_text l.columns) (take l.term-index l.terms)) (Ok tt)
