use Rattle.std.proofs.Common.{◌++◌, ◌∙◌, length, ap}
use Rattle.std.specs.Prelude.{codes, decimal}
use Rattle.std.proofs.lemmas.Result.{err_from_is_err_and}
use Rattle.bt_text.specs.Lines.{line}
use Rattle.bt_io.proofs.Pieces.{first_failed, second_failed, three_written}
use Rattle.bt_log.specs.LogText.{log_text}
use Rattle.bt_grids.specs.SmallestText.{grid_line}
use Rattle.bt_grids.proofs.printing.print_spent.Goals as goal

pub returns-in_err-write_pieces : goal.returns-in_err-write_pieces
returns-in_err-write_pieces g c =
    let p = err_from_is_err_and c.from_residual.result c.from_residual.ensures.1 in
    let steps = c.args.log.now.steps in
    rw p.1
    (first_failed g.K.Sink.held g.K.Sink.faults c.args.sink.now c.write_pieces.new.sink c.write_pieces.new.sink c.write_pieces.new.sink (line (codes "spent " ++ decimal (length steps)))
    (grid_line c.args.grid) (log_text steps) _ _ (rw (c.as_bytes.ensures.value ∙ c.format.ensures.text ∙ ap decimal c.len.ensures) at c.in_err-write_pieces.ensures))

pub returns-in_err-print_grid : goal.returns-in_err-print_grid
returns-in_err-print_grid g c =
    let p = err_from_is_err_and c.from_residual-in_err-print_grid.result c.from_residual-in_err-print_grid.ensures.1 in
    let steps = c.args.log.now.steps in
    rw p.1
    (second_failed g.K.Sink.held g.K.Sink.faults c.args.sink.now c.write_pieces.new.sink c.print_grid.new.sink c.print_grid.new.sink (line (codes "spent " ++ decimal (length steps)))
    (grid_line c.args.grid) (log_text steps) _ _ (rw (c.as_bytes.ensures.value ∙ c.format.ensures.text ∙ ap decimal c.len.ensures) at c.in_ok-write_pieces.ensures)
    c.in_err-print_grid.ensures)

pub returns : goal.returns
returns g c =
    let steps = c.args.log.now.steps in
    three_written g.K.Sink.held g.K.Sink.faults c.args.sink.now c.write_pieces.new.sink c.print_grid.new.sink c.print.new.sink (line (codes "spent " ++ decimal (length steps)))
    (grid_line c.args.grid) (log_text steps) c.print.result (rw (c.as_bytes.ensures.value ∙ c.format.ensures.text ∙ ap decimal c.len.ensures) at c.in_ok-write_pieces.ensures)
    c.in_ok-print_grid.ensures c.print.ensures
