use Rattle.std.proofs.Common.{append-nil, sym}
use Rattle.bt_net.specs.declared.network.End.TheVariants as end
use Rattle.bt_demands.specs.Pinning as pinning
use Rattle.bt_arena.proofs.Loops.{place_more}
use Rattle.bt_demands.proofs.siding.add_inputs_side.Goals as goal

pub loop-input-init : goal.loop-input-init
loop-input-init c = sym (append-nil c.args.draft.now)

pub loop-input-preserved : goal.loop-input-preserved
loop-input-preserved c = place_more (λ i. pinning.side_end_rules c.args.request.now c.args.dir (end.Input i)) c.args.draft.now c.loop-input.draft c.add_side_end.new.draft c.loop-input.input c.loop-input.invariant (c.in_ok-add_side_end.ensures)
