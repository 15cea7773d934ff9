use Rattle.std.proofs.Common.{◌++◌, append-nil, sym, ◌∙◌, ap}
use Rattle.std.specs.List.{flat_map}
use Rattle.bt_facts.specs.Spots.{dirs}
use Rattle.bt_rules.specs.Ports as ports
use Rattle.bt_arena.proofs.Loops.{taken_more, taken_all}
use Rattle.bt_rules.proofs.ports.add_ports.Goals as goal

pub loop-cell-init : goal.loop-cell-init
loop-cell-init c = sym (append-nil c.args.draft.now)

pub loop-cell-preserved : goal.loop-cell-preserved
loop-cell-preserved c = taken_more (λ on. flat_map (ports.standing_port_rules c.args.request.now c.args.gate.now.splitter on) dirs) c.args.cells.now c.args.draft.now c.loop-cell.draft c.add_ports_on.new.draft c.loop-cell.cell-index _ c.loop-cell-test.true c.loop-cell.invariant (c.in_ok-add_ports_on.ensures)

pub returns : goal.returns
returns c = taken_all (λ on. flat_map (ports.standing_port_rules c.args.request.now c.args.gate.now.splitter on) dirs) c.args.cells.now c.args.draft.now c.loop-cell.draft c.loop-cell.cell-index c.loop-cell-test.false c.loop-cell.invariant ∙ ap (λ l. c.args.draft.now ++ flat_map (λ on. flat_map (ports.standing_port_rules c.args.request.now c.args.gate.now.splitter on) dirs) l) c.requires.cells
