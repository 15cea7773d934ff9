use Rattle.bt_arena.proofs.PoolPieces.{get-pieces, start_below, end_below}
use Rattle.bt_arena.proofs.pool.span.Goals as goal

pub returns-clause-order : goal.returns-clause-order
returns-clause-order g c = rw c.start.ensures (start_below 0 c.args.ends.now c.args.items.now c.args.place c.requires.ends c.requires.place)

pub returns-clause-within : goal.returns-clause-within
returns-clause-within g c = end_below 0 c.args.ends.now c.args.items.now c.args.place c.requires.ends c.requires.place

pub returns-clause-piece : goal.returns-clause-piece
returns-clause-piece g c = rw c.start.ensures (get-pieces 0 c.args.ends.now c.args.items.now c.args.place c.requires.place)
