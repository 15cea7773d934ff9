use Rattle.std.proofs.Common.{ap, length, arith}
use Rattle.bt_arena.proofs.PoolPieces.{length-pieces}
use Rattle.bt_arena.proofs.pool.Pool.slice.Goals as goal

pub span-from-requires-clause-place : goal.span-from-requires-clause-place
span-from-requires-clause-place g c =
    omega (arith, c.place.ensures, ap length c.deref-2.ensures.value, length-pieces 0 c.self.inside.ends.items c.self.inside.items.items, ap length c.self.view_is, c.requires)
