use Rattle.std.proofs.Common.{Ok, ◌++◌, take}
use Rattle.std.specs.List.{flat_map}
use Rattle.bt_io.specs.Bytes.{WritesText}
use Rattle.bt_io.specs.Passages.{passage}
use Rattle.bt_io.specs.declared.fault.WriteFault.{WriteFault}
use Rattle.bt_net.specs.NetText.{line, header, edge_text}
use Rattle.bt_print.proofs.networks.print_edges.Given as goal

-- the header and the edges so far were written
abbrev pub invariant-loop-edge : goal.invariant-loop-edge
invariant-loop-edge g l =
    WritesText {T = Unit {0}} {E = WriteFault} (passage g.K.Sink.held g.K.Sink.faults l.fn.sink l.sink)
    (line (header l.net) ++ flat_map (λ e. line (edge_text e)) (take l.edge-index l.edges)) (Ok tt)
