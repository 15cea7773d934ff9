use Rattle.std.proofs.Common.{append-nil, sym}
use Rattle.bt_demands.specs.Pinning as pinning
use Rattle.bt_arena.proofs.Loops.{taken_more, taken_all}
use Rattle.bt_demands.proofs.siding.add_all_unpinned.Goals as goal

pub loop-demand-init : goal.loop-demand-init
loop-demand-init c = sym (append-nil c.args.draft.now)

pub loop-demand-preserved : goal.loop-demand-preserved
loop-demand-preserved c = taken_more (pinning.unpinned_rules c.args.output) c.args.demands.now c.args.draft.now c.loop-demand.draft c.add_unpinned.new.draft c.loop-demand.demand-index _ c.loop-demand-test.true c.loop-demand.invariant (c.in_ok-add_unpinned.ensures)

pub returns : goal.returns
returns c = taken_all (pinning.unpinned_rules c.args.output) c.args.demands.now c.args.draft.now c.loop-demand.draft c.loop-demand.demand-index c.loop-demand-test.false c.loop-demand.invariant
