-- Blocks as callers see them.
use Rattle.bt_print.specs.Legends.{BlockParts, block}
use Rattle.bt_print.specs.declared.blocks.Block.{Block}

-- the block whose meaning is lent
abbrev pub block_told : Block → BlockParts
block_told b = block b.from b.end b.meaning.now
