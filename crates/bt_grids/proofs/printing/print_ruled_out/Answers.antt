use Rattle.std.proofs.lemmas.Result.{err_from_is_err_and}
use Rattle.bt_io.specs.Passages.{passage}
use Rattle.bt_io.proofs.Written.{writes_both, writes_no_more}
use Rattle.bt_grids.specs.SmallestText.{grid_line, nowhere_text}
use Rattle.bt_grids.proofs.printing.print_ruled_out.Goals as goal

pub returns-in_err-print_grid : goal.returns-in_err-print_grid
returns-in_err-print_grid g c =
    let p = err_from_is_err_and c.from_residual.result c.from_residual.ensures.1 in
    rw p.1
    (writes_no_more _ _ (passage g.K.Sink.held g.K.Sink.faults c.args.sink.now c.print_grid.new.sink) (grid_line c.args.one.now.grid) (nowhere_text c.args.one.now.log.steps)
    c.in_err-print_grid.ensures)

pub returns : goal.returns
returns g c =
    writes_both g.K.Sink.held g.K.Sink.faults c.args.sink.now c.print_grid.new.sink c.print_none.new.sink (grid_line c.args.one.now.grid) (nowhere_text c.args.one.now.log.steps) tt
    c.print_none.result c.in_ok-print_grid.ensures c.print_none.ensures
