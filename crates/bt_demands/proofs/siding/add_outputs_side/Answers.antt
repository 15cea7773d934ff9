use Rattle.std.proofs.Common.{append-nil, sym}
use Rattle.bt_net.specs.declared.network.End.TheVariants as end
use Rattle.bt_demands.specs.Pinning as pinning
use Rattle.bt_arena.proofs.Loops.{place_more}
use Rattle.bt_demands.proofs.siding.add_outputs_side.Goals as goal

pub loop-output-init : goal.loop-output-init
loop-output-init c = sym (append-nil c.args.draft.now)

pub loop-output-preserved : goal.loop-output-preserved
loop-output-preserved c = place_more (λ o. pinning.side_end_rules c.args.request.now c.args.dir (end.Output o)) c.args.draft.now c.loop-output.draft c.add_side_end.new.draft c.loop-output.output c.loop-output.invariant (c.in_ok-add_side_end.ensures)
