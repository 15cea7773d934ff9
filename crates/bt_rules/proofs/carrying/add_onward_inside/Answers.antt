use Rattle.std.proofs.Common.{◌++◌, ◌∙◌, map, ap}
use Rattle.std.specs.List.{flat_map}
use Rattle.bt_rules.specs.Carrying.{carried_rules, taken_rule}
use Rattle.bt_demands.specs.Classes.{classes_of, splitters_of}
use Rattle.bt_demands.specs.declared.plan.Gate.{Gate}
use Rattle.bt_demands.specs.declared.plan.Way.{Way}
use Rattle.bt_facts.proofs.Drawn.{flat_of_made, map_of_made, two_added}
use Rattle.bt_rules.proofs.carrying.add_onward_inside.Goals as goal

pub returns : goal.returns
returns c =
    let r = c.args.request.now in
    let carried = carried_rules r c.args.cell c.args.dir in
    let taken = taken_rule r c.args.cell c.args.dir in
    let d = c.args.draft.now in
    let ways = c.args.plan.now.ways.items in
    let gates = c.args.plan.now.gates.items in
    let one = c.in_ok-add_all_carried.ensures ∙ ap (λ l. d ++ flat_map (λ (w : Way). carried w.class) l) c.deref.ensures.value
    ∙ ap (λ l. d ++ l) (flat_of_made carried (λ (w : Way). w.class) ways ∙ ap (flat_map carried) c.requires.plan.ways_of) in
    let two = c.in_ok-add_all_taken.ensures ∙ ap (λ l. c.add_all_carried.new.draft ++ map (λ (g : Gate). taken g.splitter) l) c.deref-2.ensures.value
    ∙ ap (λ l. c.add_all_carried.new.draft ++ l) (map_of_made taken (λ (g : Gate). g.splitter) gates ∙ ap (map taken) c.requires.plan.gates_of) in
    two_added d c.add_all_carried.new.draft c.add_all_taken.new.draft (flat_map carried (classes_of r)) (map taken (splitters_of r)) one two
