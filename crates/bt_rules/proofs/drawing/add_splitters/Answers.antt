use Rattle.std.proofs.Common.{◌++◌, append-nil, sym, ◌∙◌, ap}
use Rattle.bt_rules.specs.PlaceRules as place
use Rattle.bt_demands.specs.declared.plan.Gate.{Gate}
use Rattle.bt_arena.proofs.Loops.{taken_more, taken_all}
use Rattle.bt_rules.proofs.drawing.add_splitters.Goals as goal

pub loop-gate-init : goal.loop-gate-init
loop-gate-init c = sym (append-nil c.args.draft.now)

pub loop-gate-preserved : goal.loop-gate-preserved
loop-gate-preserved c = taken_more (λ g. place.splitter_rules c.args.request.now g.splitter) c.args.gates.now c.args.draft.now c.loop-gate.draft c.add_splitter.new.draft c.loop-gate.gate-index _ c.loop-gate-test.true c.loop-gate.invariant (c.in_ok-add_splitter.ensures ∙ ap (λ (g : Gate). c.loop-gate.draft ++ place.splitter_rules c.args.request.now g.splitter) c.gate-item.is)

pub returns : goal.returns
returns c = taken_all (λ g. place.splitter_rules c.args.request.now g.splitter) c.args.gates.now c.args.draft.now c.loop-gate.draft c.loop-gate.gate-index c.loop-gate-test.false c.loop-gate.invariant
