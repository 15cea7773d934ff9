use Rattle.std.proofs.Common.{Ok, ◌++◌, [], take}
use Rattle.std.specs.List.{flat_map, range_with_len}
use Rattle.bt_io.specs.Bytes.{WritesText}
use Rattle.bt_io.specs.Passages.{passage}
use Rattle.bt_io.specs.declared.fault.WriteFault.{WriteFault}
use Rattle.bt_print.specs.inner.Atoms.{row_at_text}
use Rattle.bt_print.proofs.rows.print_rows.Given as goal

-- the lines of the variables so far were written
abbrev pub invariant-loop-place : goal.invariant-loop-place
invariant-loop-place g l =
    WritesText {T = Unit {0}} {E = WriteFault} (passage g.K.Sink.held g.K.Sink.faults l.fn.sink l.sink)
    ([] ++ flat_map (row_at_text l.columns l.formula.atoms) (take l.place (range_with_len 0 l.formula.vars))) (Ok tt)
