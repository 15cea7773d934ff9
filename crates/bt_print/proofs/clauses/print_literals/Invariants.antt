use Rattle.std.proofs.Common.{Ok, take}
use Rattle.bt_io.specs.Bytes.{WritesText}
use Rattle.bt_io.specs.Passages.{passage}
use Rattle.bt_io.specs.declared.fault.WriteFault.{WriteFault}
use Rattle.bt_print.specs.FormulaText.{literals_text}
use Rattle.bt_print.proofs.clauses.print_literals.Given as goal

-- the literals so far were written
abbrev pub invariant-loop-lit : goal.invariant-loop-lit
invariant-loop-lit g l =
    WritesText {T = Unit {0}} {E = WriteFault} (passage g.K.Sink.held g.K.Sink.faults l.fn.sink l.sink) (literals_text (take l.lit-index l.lits)) (Ok tt)
