use Rattle.std.proofs.Common.{arith, subst, length-append, ◌∷◌, []}
use Rattle.bt_net.specs.PinText.{IsBlockHere}
use Rattle.bt_net.proofs.ItemLines.{items_push, shorter}
use Rattle.bt_net.proofs.SideSpelling.{block_here_apart, block_here-some, block_here-lacks}
use Rattle.bt_net.proofs.reading.read_blocks.Goals as goal

pub loop-block-preserved : goal.loop-block-preserved
loop-block-preserved c =
    let some = block_here-some c.args.admitted _ c.first_line.result.0.now c.in-Some.block c.in-Some.ensures.some in
    rw c.in_ok-push.ensures.items (record {
      lines = items_push (IsBlockHere c.args.admitted) (block_here_apart c.args.admitted) (block_here-some c.args.admitted) (block_here-lacks c.args.admitted)
          _ c.args.text.now c.loop-block.rest.now c.first_line.result.0.now c.first_line.result.1.now c.loop-block.blocks.items c.in-Some.block c.loop-block.invariant.lines c.first_line.ensures (subst (λ k. IsBlockHere c.args.admitted k c.first_line.result.0.now c.in-Some.block) (omega arith) c.in-Some.ensures.some);
      short = omega (arith, length-append c.loop-block.blocks.items (c.in-Some.block ∷ []), shorter c.loop-block.rest.now c.first_line.result.0.now c.first_line.result.1.now c.first_line.ensures some);
    })
