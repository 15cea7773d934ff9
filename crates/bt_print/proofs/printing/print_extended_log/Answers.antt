use Rattle.std.proofs.lemmas.Result.{err_from_is_err_and}
use Rattle.bt_io.specs.Passages.{passage}
use Rattle.bt_io.proofs.Written.{writes_both, writes_no_more}
use Rattle.bt_log.specs.LogText.{log_text}
use Rattle.bt_extend.specs.Texts.{definitions_text}
use Rattle.bt_print.proofs.printing.print_extended_log.Goals as goal

pub returns-in_err-print_definitions : goal.returns-in_err-print_definitions
returns-in_err-print_definitions g c =
    let p = err_from_is_err_and c.from_residual.result c.from_residual.ensures.1 in
    rw p.1
    (writes_no_more _ _ (passage g.K.Sink.held g.K.Sink.faults c.args.sink.now c.print_definitions.new.sink) (definitions_text c.args.definitions.now) (log_text c.args.log.now.steps)
    c.in_err-print_definitions.ensures)

pub returns : goal.returns
returns g c =
    writes_both g.K.Sink.held g.K.Sink.faults c.args.sink.now c.print_definitions.new.sink c.print.new.sink (definitions_text c.args.definitions.now) (log_text c.args.log.now.steps) tt
    c.print.result c.in_ok-print_definitions.ensures c.print.ensures
