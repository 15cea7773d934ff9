use Rattle.std.proofs.Common.{◌++◌, ◌∙◌, ap}
use Rattle.std.specs.List.{flat_map}
use Rattle.bt_demands.specs.Classes.{splitters_of}
use Rattle.bt_demands.specs.Counting.{count_rules}
use Rattle.bt_rules.specs.PlaceRules.{cell_rules, splitter_rules}
use Rattle.bt_demands.specs.Ends.{end_rules}
use Rattle.bt_facts.specs.Spots.{cells_of}
use Rattle.bt_demands.specs.declared.plan.Gate.{Gate}
use Rattle.bt_facts.proofs.Drawn.{flat_of_made, two_added, three_together}
use Rattle.bt_rules.proofs.drawing.add_room.Goals as goal

pub returns : goal.returns
returns c =
    let r = c.args.request.now in
    let old = c.args.draft.now in
    let at_cells = flat_map (cell_rules r) (cells_of r.rect) in
    let of_splitters = flat_map (splitter_rules r) (splitters_of r) in
    let one = c.in_ok-add_cells.ensures ∙ ap (λ l. old ++ flat_map (cell_rules r) l) c.requires.cells in
    let two = c.in_ok-add_splitters.ensures ∙ ap (λ l. c.add_cells.new.draft ++ flat_map (λ (g : Gate). splitter_rules r g.splitter) l) c.deref.ensures.value
    ∙ ap (λ l. c.add_cells.new.draft ++ l) (flat_of_made (splitter_rules r) (λ (g : Gate). g.splitter) c.in_ok-plan.plan.gates.items ∙ ap (flat_map (splitter_rules r)) c.in_ok-plan.ensures.gates_of) in
    two_added old c.add_ends.new.draft c.add_counts.new.draft (at_cells ++ of_splitters ++ end_rules r) (count_rules r)
    (three_together old c.add_cells.new.draft c.add_splitters.new.draft c.add_ends.new.draft at_cells of_splitters (end_rules r) one two c.in_ok-add_ends.ensures)
    c.in_ok-add_counts.ensures
