use Rattle.std.proofs.Common.{Ok, [], ◌++◌, take}
use Rattle.std.specs.List.{flat_map, range_with_len}
use Rattle.bt_io.specs.Bytes.{WritesText}
use Rattle.bt_io.specs.Passages.{passage}
use Rattle.bt_io.specs.declared.fault.WriteFault.{WriteFault}
use Rattle.bt_net.specs.Priorities.{splitter_text}
use Rattle.bt_print.proofs.networks.print_priorities.Given as goal

-- the lines of the splitters so far were written
abbrev pub invariant-loop-splitter : goal.invariant-loop-splitter
invariant-loop-splitter g l =
    WritesText {T = Unit {0}} {E = WriteFault} (passage g.K.Sink.held g.K.Sink.faults l.fn.sink l.sink)
    ([] ++ flat_map (splitter_text l.net) (take l.splitter (range_with_len 0 l.net.splitters))) (Ok tt)
