use Rattle.std.proofs.Common.{Ok, ◌++◌, take}
use Rattle.std.specs.List.{flat_map}
use Rattle.bt_io.specs.Bytes.{WritesText}
use Rattle.bt_io.specs.Passages.{passage}
use Rattle.bt_io.specs.declared.fault.WriteFault.{WriteFault}
use Rattle.bt_print.specs.FormulaText.{dimacs_header, clause_line}
use Rattle.bt_print.proofs.clauses.print_clauses.Given as goal

-- the header and the clauses so far were written
abbrev pub invariant-loop-place : goal.invariant-loop-place
invariant-loop-place g l =
    WritesText {T = Unit {0}} {E = WriteFault} (passage g.K.Sink.held g.K.Sink.faults l.fn.sink l.sink) (dimacs_header l.formula ++ flat_map clause_line (take l.place l.formula.clauses)) (Ok tt)
