use Rattle.std.proofs.Common.{◌++◌, ◌∷◌, [], append-nil, sym, ◌∙◌, ap}
use Rattle.bt_parts.specs.Cells.{cell_at}
use Rattle.bt_arena.proofs.Loops.{item_more}
use Rattle.bt_facts.proofs.cells.push_row.Goals as goal

pub loop-column-init : goal.loop-column-init
loop-column-init c = sym (append-nil c.args.cells.now.items)

pub loop-column-preserved : goal.loop-column-preserved
loop-column-preserved c = item_more (λ column. cell_at column c.args.row) c.args.cells.now.items c.loop-column.cells.items c.push.new.self.items c.loop-column.column c.loop-column.invariant (c.in_ok-push.ensures.items ∙ ap (λ h. c.loop-column.cells.items ++ h ∷ []) c.cell_at.ensures)
