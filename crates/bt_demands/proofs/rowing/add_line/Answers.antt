use Rattle.std.proofs.Common.{◌++◌, [], cond, append-nil, sym, ◌∙◌, ap}
use Rattle.std.specs.List.{flat_map, filter}
use Rattle.bt_demands.specs.Rows.{has_place, placed_rules}
use Rattle.bt_arena.proofs.Loops.{taken_more, taken_all}
use Rattle.bt_demands.proofs.RowCells.{cell_inside, flat_filtered}
use Rattle.bt_demands.proofs.rowing.add_line.Goals as goal

pub loop-cell-init : goal.loop-cell-init
loop-cell-init c = sym (append-nil c.args.draft.now)

pub add_place-requires-clause-cell : goal.add_place-requires-clause-cell
add_place-requires-clause-cell c = cell_inside c.args.rect c.args.cells.now c.requires.cells c.loop-cell.cell-index _ c.loop-cell-test.true

pub loop-cell-preserved : goal.loop-cell-preserved
loop-cell-preserved c = taken_more (λ x. cond (has_place c.args.rect c.args.count c.args.line x) (placed_rules c.args.rect c.args.kind c.args.count c.args.line x) []) c.args.cells.now c.args.draft.now c.loop-cell.draft c.add_place.new.draft c.loop-cell.cell-index _ c.loop-cell-test.true c.loop-cell.invariant (c.in_ok-add_place.ensures)

pub returns : goal.returns
returns c =
    let test = has_place c.args.rect c.args.count c.args.line in
    let rules = placed_rules c.args.rect c.args.kind c.args.count c.args.line in
    taken_all (λ x. cond (test x) (rules x) []) c.args.cells.now c.args.draft.now c.loop-cell.draft c.loop-cell.cell-index c.loop-cell-test.false c.loop-cell.invariant
    ∙ ap (λ l. c.args.draft.now ++ l) (flat_filtered test rules c.args.cells.now ∙ ap (λ cells. flat_map rules (filter test cells)) c.requires.cells)
