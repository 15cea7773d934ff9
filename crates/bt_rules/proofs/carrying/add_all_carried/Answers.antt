use Rattle.std.proofs.Common.{◌++◌, append-nil, sym, ◌∙◌, ap}
use Rattle.bt_rules.specs.Carrying as carrying
use Rattle.bt_demands.specs.declared.plan.Way.{Way}
use Rattle.bt_arena.proofs.Loops.{taken_more, taken_all}
use Rattle.bt_rules.proofs.carrying.add_all_carried.Goals as goal

pub loop-way-init : goal.loop-way-init
loop-way-init c = sym (append-nil c.args.draft.now)

pub loop-way-preserved : goal.loop-way-preserved
loop-way-preserved c = taken_more (λ w. carrying.carried_rules c.args.request.now c.args.cell c.args.dir w.class) c.args.ways.now c.args.draft.now c.loop-way.draft c.add_carried.new.draft c.loop-way.way-index _ c.loop-way-test.true c.loop-way.invariant (c.in_ok-add_carried.ensures ∙ ap (λ (w : Way). c.loop-way.draft ++ carrying.carried_rules c.args.request.now c.args.cell c.args.dir w.class) c.way-item.is)

pub returns : goal.returns
returns c = taken_all (λ w. carrying.carried_rules c.args.request.now c.args.cell c.args.dir w.class) c.args.ways.now c.args.draft.now c.loop-way.draft c.loop-way.way-index c.loop-way-test.false c.loop-way.invariant
