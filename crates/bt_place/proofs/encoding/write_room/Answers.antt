use Rattle.std.proofs.Common.{◌++◌, refl, ap, ◌∙◌}
use Rattle.std.specs.List.{flat_map}
use Rattle.bt_demands.specs.Classes.{splitters_of}
use Rattle.bt_demands.specs.declared.plan.Gate.{Gate}
use Rattle.bt_demands.specs.Counting.{count_rules}
use Rattle.bt_rules.specs.PlaceRules.{cell_rules, splitter_rules, room_rules}
use Rattle.bt_demands.specs.Ends.{end_rules}
use Rattle.bt_facts.specs.Spots.{cells_of}
use Rattle.bt_facts.proofs.Drawn.{flat_of_made}
use Rattle.bt_place.specs.inner.Writing.{with_rules}
use Rattle.bt_place.proofs.Written.{with_more}
use Rattle.bt_place.proofs.encoding.write_room.Goals as goal

pub returns : goal.returns
returns c =
    let r = c.args.request.now in
    let z = c.args.numbers.now in
    let f = c.args.formula.now in
    let at_cells = flat_map (cell_rules r) (cells_of r.rect) in
    let of_splitters = flat_map (splitter_rules r) (splitters_of r) in
    let one = c.in_ok-write_cells.ensures ∙ ap (λ l. with_rules z f (flat_map (cell_rules r) l)) c.requires.cells in
    let split = ap (flat_map (λ (g : Gate). splitter_rules r g.splitter)) c.deref.ensures.value
    ∙ flat_of_made (splitter_rules r) (λ (g : Gate). g.splitter) c.in_ok-plan.plan.gates.items ∙ ap (flat_map (splitter_rules r)) c.in_ok-plan.ensures.gates_of in
    let two = c.in_ok-write_splitters.ensures ∙ ap (with_rules z c.write_cells.new.formula) split in
    let both = with_more z f c.write_cells.new.formula c.write_splitters.new.formula at_cells of_splitters (at_cells ++ of_splitters) one two refl in
    let three = with_more z f c.write_splitters.new.formula c.write_ends.new.formula (at_cells ++ of_splitters) (end_rules r) (at_cells ++ of_splitters ++ end_rules r) both c.in_ok-write_ends.ensures refl in
    with_more z f c.write_ends.new.formula c.write_counts.new.formula (at_cells ++ of_splitters ++ end_rules r) (count_rules r) (room_rules r) three c.in_ok-write_counts.ensures refl
