use Rattle.std.proofs.Common.{Ok, take}
use Rattle.std.specs.List.{flat_map}
use Rattle.bt_io.specs.Bytes.{WritesText}
use Rattle.bt_io.specs.Passages.{passage}
use Rattle.bt_io.specs.declared.fault.WriteFault.{WriteFault}
use Rattle.bt_print.specs.Legends.{block_line}
use Rattle.bt_print.specs.inner.Blocks.{block_told}
use Rattle.bt_print.proofs.blocks.print_blocks.Given as goal

-- the lines of the blocks so far were written
abbrev pub invariant-loop-block : goal.invariant-loop-block
invariant-loop-block g l =
    WritesText {T = Unit {0}} {E = WriteFault} (passage g.K.Sink.held g.K.Sink.faults l.fn.sink l.sink) (flat_map (λ b. block_line (block_told b)) (take l.block-index l.blocks)) (Ok tt)
