use Rattle.std.proofs.Common.{take, ap, ◌∙◌, subst, sym, ◌<◌}
use Rattle.std.specs.List.{flat_map}
use Rattle.bt_demands.specs.declared.plan.Gate.{Gate}
use Rattle.bt_rules.specs.PlaceRules.{splitter_rules}
use Rattle.bt_place.specs.inner.Writing.{with_rules}
use Rattle.bt_place.proofs.Encoded.{encoding_after, item_written, items_written, gate_there}
use Rattle.bt_place.proofs.Written.{with_none}
use Rattle.bt_place.proofs.encoding.write_splitters.Goals as goal

pub loop-gate-init : goal.loop-gate-init
loop-gate-init c = with_none c.args.numbers.now c.args.formula.now

pub write_splitter-requires-clause-there : goal.write_splitter-requires-clause-there
write_splitter-requires-clause-there c =
    subst (λ (g : Gate). g.splitter < c.args.request.now.net.splitters) (sym c.gate-item.is)
    (gate_there c.args.request.now c.args.gates.now c.loop-gate.gate-index _ c.requires.of c.loop-gate-test.true)

pub write_splitter-requires-clause-encoding : goal.write_splitter-requires-clause-encoding
write_splitter-requires-clause-encoding c = encoding_after c.args.request.now c.args.numbers.now c.args.formula.now c.loop-gate.formula (flat_map (λ (g : Gate). splitter_rules c.args.request.now g.splitter) (take c.loop-gate.gate-index c.args.gates.now)) c.requires.encoding c.loop-gate.invariant

pub loop-gate-preserved : goal.loop-gate-preserved
loop-gate-preserved c = item_written c.args.numbers.now (λ (g : Gate). splitter_rules c.args.request.now g.splitter) c.args.gates.now c.args.formula.now c.loop-gate.formula c.write_splitter.new.formula c.loop-gate.gate-index _ c.loop-gate-test.true c.loop-gate.invariant
    (c.in_ok-write_splitter.ensures ∙ ap (λ (g : Gate). with_rules c.args.numbers.now c.loop-gate.formula (splitter_rules c.args.request.now g.splitter)) c.gate-item.is)

pub returns : goal.returns
returns c = items_written c.args.numbers.now (λ (g : Gate). splitter_rules c.args.request.now g.splitter) c.args.gates.now c.args.formula.now c.loop-gate.formula c.loop-gate.gate-index c.loop-gate-test.false c.loop-gate.invariant
