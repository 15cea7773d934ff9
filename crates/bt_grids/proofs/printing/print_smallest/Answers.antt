use Rattle.std.proofs.lemmas.Result.{err_from_is_err_and}
use Rattle.bt_io.specs.Passages.{passage}
use Rattle.bt_io.proofs.Written.{writes_both, writes_no_more}
use Rattle.bt_grids.specs.SmallestText.{from_line, least_text}
use Rattle.bt_grids.proofs.printing.print_smallest.Goals as goal

pub returns-in_err-print_from : goal.returns-in_err-print_from
returns-in_err-print_from g c = λ priorities is.
    let p = err_from_is_err_and c.from_residual.result c.from_residual.ensures.1 in
    rw p.1
    (writes_no_more _ _ (passage g.K.Sink.held g.K.Sink.faults c.args.sink.now c.print_from.new.sink) (from_line c.args.first) (least_text c.args.answer.now priorities)
    c.in_err-print_from.ensures)

pub returns : goal.returns
returns g c = λ priorities is.
    writes_both g.K.Sink.held g.K.Sink.faults c.args.sink.now c.print_from.new.sink c.print_least.new.sink (from_line c.args.first) (least_text c.args.answer.now priorities) tt
    c.print_least.result c.in_ok-print_from.ensures (c.print_least.ensures priorities is)
