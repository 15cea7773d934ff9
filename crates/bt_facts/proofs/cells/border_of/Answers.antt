use Rattle.std.proofs.Common.{cond, ◌∷◌, [], sym, ◌∙◌}
use Rattle.bt_arena.proofs.Loops.{filter_flat, taken_all, taken_more}
use Rattle.bt_facts.specs.Spots.{is_border}
use Rattle.bt_facts.proofs.cells.border_of.Goals as goal

pub loop-cell-preserved : goal.loop-cell-preserved
loop-cell-preserved c = taken_more (λ on. cond (is_border c.args.rect on) (on ∷ []) []) c.args.cells.now [] c.loop-cell.border.items c.push_border.new.border.items c.loop-cell.cell-index _ c.loop-cell-test.true c.loop-cell.invariant c.in_ok-push_border.ensures

pub returns : goal.returns
returns c = taken_all (λ on. cond (is_border c.args.rect on) (on ∷ []) []) c.args.cells.now [] c.loop-cell.border.items c.loop-cell.cell-index c.loop-cell-test.false c.loop-cell.invariant ∙ sym (filter_flat (is_border c.args.rect) c.args.cells.now)
