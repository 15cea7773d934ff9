use Rattle.std.proofs.Common.{◌++◌, ◌∷◌, [], append-nil, sym, ◌∙◌, ap}
use Rattle.bt_rules.specs.Carrying as carrying
use Rattle.bt_demands.specs.declared.plan.Gate.{Gate}
use Rattle.bt_arena.proofs.Loops.{mapped_more, mapped_all}
use Rattle.bt_rules.proofs.carrying.add_all_taken.Goals as goal

pub loop-gate-init : goal.loop-gate-init
loop-gate-init c = sym (append-nil c.args.draft.now)

pub loop-gate-preserved : goal.loop-gate-preserved
loop-gate-preserved c = mapped_more (λ g. carrying.taken_rule c.args.request.now c.args.cell c.args.dir g.splitter) c.args.gates.now c.args.draft.now c.loop-gate.draft c.add_taken.new.draft c.loop-gate.gate-index _ c.loop-gate-test.true c.loop-gate.invariant (c.in_ok-add_taken.ensures ∙ ap (λ (g : Gate). c.loop-gate.draft ++ carrying.taken_rule c.args.request.now c.args.cell c.args.dir g.splitter ∷ []) c.gate-item.is)

pub returns : goal.returns
returns c = mapped_all (λ g. carrying.taken_rule c.args.request.now c.args.cell c.args.dir g.splitter) c.args.gates.now c.args.draft.now c.loop-gate.draft c.loop-gate.gate-index c.loop-gate-test.false c.loop-gate.invariant
