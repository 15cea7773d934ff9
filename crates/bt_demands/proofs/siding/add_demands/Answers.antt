use Rattle.std.proofs.Common.{append-nil, sym}
use Rattle.bt_demands.specs.Pinning as pinning
use Rattle.bt_arena.proofs.Loops.{taken_more, taken_all}
use Rattle.bt_demands.proofs.siding.add_demands.Goals as goal

pub loop-demand-init : goal.loop-demand-init
loop-demand-init c = sym (append-nil c.args.draft.now)

pub loop-demand-preserved : goal.loop-demand-preserved
loop-demand-preserved c = taken_more (pinning.demand_rules c.args.request.now) c.args.demands.now c.args.draft.now c.loop-demand.draft c.add_demand.new.draft c.loop-demand.demand-index _ c.loop-demand-test.true c.loop-demand.invariant (c.in_ok-add_demand.ensures)

pub returns : goal.returns
returns c = taken_all (pinning.demand_rules c.args.request.now) c.args.demands.now c.args.draft.now c.loop-demand.draft c.loop-demand.demand-index c.loop-demand-test.false c.loop-demand.invariant
