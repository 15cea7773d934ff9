use Rattle.std.proofs.Common.{◌++◌, ◌∷◌, [], ap, ◌∙◌}
use Rattle.std.specs.Prelude.{◌==◌}
use Rattle.std.specs.List.{position_or_len}
use Rattle.bt_arena.proofs.Loops.{item_more}
use Rattle.bt_place.proofs.order.ranks_in.Goals as goal

pub loop-splitter-preserved : goal.loop-splitter-preserved
loop-splitter-preserved c = item_more (λ s. position_or_len (λ k. k == s) c.args.order.now) [] c.loop-splitter.ranks.items c.push.new.self.items c.loop-splitter.splitter c.loop-splitter.invariant
    (c.in_ok-push.ensures.items ∙ ap (λ r. c.loop-splitter.ranks.items ++ r ∷ []) c.rank.ensures)
