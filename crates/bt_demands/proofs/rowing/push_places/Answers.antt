use Rattle.std.proofs.Common.{◌++◌, ◌∷◌, [], cond, append-nil, sym, ◌∙◌, ap, map}
use Rattle.std.specs.List.{filter}
use Rattle.bt_facts.specs.declared.fact.Fact.TheVariants.{Lies}
use Rattle.bt_demands.specs.Rows.{has_place}
use Rattle.bt_arena.proofs.Loops.{taken_more, taken_all}
use Rattle.bt_facts.proofs.Drawn.{made_flat}
use Rattle.bt_demands.proofs.RowCells.{grid_near, cell_inside}
use Rattle.bt_demands.proofs.rowing.push_places.Goals as goal

pub loop-cell-init : goal.loop-cell-init
loop-cell-init c = sym (append-nil c.args.facts.now.items)

pub push_place-requires-clause-near : goal.push_place-requires-clause-near
push_place-requires-clause-near c = grid_near c.args.rect c.requires.grid _ (cell_inside c.args.rect c.args.cells.now c.requires.cells c.loop-cell.cell-index _ c.loop-cell-test.true)

pub loop-cell-preserved : goal.loop-cell-preserved
loop-cell-preserved c = taken_more (λ x. cond (has_place c.args.rect c.args.count c.args.line x) (Lies x c.args.line ∷ []) []) c.args.cells.now c.args.facts.now.items c.loop-cell.facts.items c.push_place.new.facts.items c.loop-cell.cell-index _ c.loop-cell-test.true c.loop-cell.invariant (c.in_ok-push_place.ensures)

pub returns : goal.returns
returns c = taken_all (λ x. cond (has_place c.args.rect c.args.count c.args.line x) (Lies x c.args.line ∷ []) []) c.args.cells.now c.args.facts.now.items c.loop-cell.facts.items c.loop-cell.cell-index c.loop-cell-test.false c.loop-cell.invariant
    ∙ ap (λ l. c.args.facts.now.items ++ l) (sym (made_flat (λ x. Lies x c.args.line) (has_place c.args.rect c.args.count c.args.line) c.args.cells.now)
    ∙ ap (λ cells. map (λ x. Lies x c.args.line) (filter (has_place c.args.rect c.args.count c.args.line) cells)) c.requires.cells)
