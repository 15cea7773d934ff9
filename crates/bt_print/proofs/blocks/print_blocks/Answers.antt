use Rattle.std.proofs.Common.{[], get_or, refl}
use Rattle.std.proofs.lemmas.List.{get_or_default}
use Rattle.std.proofs.lemmas.Result.{err_from_is_err_and}
use Rattle.bt_io.proofs.Pieces.{last_failed}
use Rattle.bt_print.specs.declared.blocks.Block.{Block}
use Rattle.bt_print.specs.Legends.{block_line}
use Rattle.bt_print.specs.inner.Blocks.{block_told}
use Rattle.bt_print.proofs.blocks.print_blocks.Goals as goal

-- what stands for a block past the last one
abbrev none : Block
none = record { from = 0; end = 0; meaning = record { ref_ptr = (0, 0); now = [] } }

pub returns-in_err-print_block : goal.returns-in_err-print_block
returns-in_err-print_block g c =
    let p = err_from_is_err_and c.from_residual.result c.from_residual.ensures.1 in
    let x = get_or c.args.blocks.now c.loop-block.block-index none in
    rw p.1
    (last_failed (λ b. block_line (block_told b)) c.args.blocks.now [] g.K.Sink.held g.K.Sink.faults c.args.sink.now c.loop-block.sink c.print_block.new.sink c.loop-block.block-index x
    (block_line (block_told x)) _ _ c.loop-block.invariant c.loop-block-test.true (get_or_default c.args.blocks.now c.loop-block.block-index none x c.loop-block-test.true) refl c.in_err-print_block.ensures)
