use Rattle.std.proofs.Common.{sym, arith}
use Rattle.bt_arena.proofs.PoolPieces.{start_before}
use Rattle.bt_arena.proofs.pool.start.Goals as goal

pub returns : goal.returns
returns c = sym (start_before 0 c.args.ends.now c.args.place c.requires (omega arith))
