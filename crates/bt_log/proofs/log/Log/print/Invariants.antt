use Rattle.std.proofs.Common.{Ok, ◌++◌, [], take}
use Rattle.std.specs.List.{flat_map}
use Rattle.bt_io.specs.Bytes.{WritesText}
use Rattle.bt_io.specs.Passages.{passage}
use Rattle.bt_io.specs.declared.fault.WriteFault.{WriteFault}
use Rattle.bt_log.specs.LogText.{step_line}
use Rattle.bt_log.proofs.log.Log.print.Given as goal

-- the lines so far were written
abbrev pub invariant-loop-n : goal.invariant-loop-n
invariant-loop-n g l =
    WritesText {T = Unit {0}} {E = WriteFault} (passage g.K.Sink.held g.K.Sink.faults l.fn.sink l.sink) ([] ++ flat_map step_line (take l.n l.self.steps)) (Ok tt)
