use Rattle.std.proofs.Common.{sym, ◌∙◌, ap, length}
use Rattle.bt_arena.proofs.PoolPieces.{length-pieces}
use Rattle.bt_arena.proofs.pool.Pool.len.Goals as goal

pub returns : goal.returns
returns g c =
    c.len.ensures ∙ c.self.inside.ends.ok.0 ∙ sym (length-pieces 0 c.self.inside.ends.items c.self.inside.items.items) ∙ ap length c.self.view_is
