use Rattle.std.proofs.lemmas.Result.{err_from_is_err_and}
use Rattle.bt_io.proofs.Pieces.{first_failed, second_failed, three_written}
use Rattle.bt_grids.specs.SmallestText.{earlier_text, grid_line}
use Rattle.bt_grids.proofs.printing.print_found.Goals as goal

pub returns-in_err-print_earlier : goal.returns-in_err-print_earlier
returns-in_err-print_earlier g c =
    let p = err_from_is_err_and c.from_residual.result c.from_residual.ensures.1 in
    rw p.1
    (first_failed g.K.Sink.held g.K.Sink.faults c.args.sink.now c.print_earlier.new.sink c.print_earlier.new.sink c.print_earlier.new.sink (earlier_text c.args.earlier.now)
    (grid_line c.args.grid) c.args.blueprint.now _ _ c.in_err-print_earlier.ensures)

pub returns-in_err-print_grid : goal.returns-in_err-print_grid
returns-in_err-print_grid g c =
    let p = err_from_is_err_and c.from_residual-in_err-print_grid.result c.from_residual-in_err-print_grid.ensures.1 in
    rw p.1
    (second_failed g.K.Sink.held g.K.Sink.faults c.args.sink.now c.print_earlier.new.sink c.print_grid.new.sink c.print_grid.new.sink (earlier_text c.args.earlier.now)
    (grid_line c.args.grid) c.args.blueprint.now _ _ c.in_ok-print_earlier.ensures c.in_err-print_grid.ensures)

pub returns : goal.returns
returns g c =
    three_written g.K.Sink.held g.K.Sink.faults c.args.sink.now c.print_earlier.new.sink c.print_grid.new.sink c.write_all_of.new.sink (earlier_text c.args.earlier.now)
    (grid_line c.args.grid) c.args.blueprint.now c.write_all_of.result c.in_ok-print_earlier.ensures c.in_ok-print_grid.ensures c.write_all_of.ensures
