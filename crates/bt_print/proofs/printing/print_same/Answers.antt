use Rattle.std.specs.Prelude.{codes}
use Rattle.std.proofs.lemmas.Result.{err_from_is_err_and}
use Rattle.bt_text.specs.Lines.{line}
use Rattle.bt_io.specs.Passages.{passage}
use Rattle.bt_io.proofs.Written.{writes_both, writes_no_more}
use Rattle.bt_print.specs.Answers.{extended_log_text}
use Rattle.bt_print.proofs.printing.print_same.Goals as goal

pub returns-in_err-write_all_of : goal.returns-in_err-write_all_of
returns-in_err-write_all_of g c =
    let p = err_from_is_err_and c.from_residual.result c.from_residual.ensures.1 in
    rw p.1
    (writes_no_more _ _ (passage g.K.Sink.held g.K.Sink.faults c.args.sink.now c.write_all_of.new.sink) (line (codes "same")) (extended_log_text c.args.definitions.now c.args.log.now.steps)
    c.in_err-write_all_of.ensures)

pub returns : goal.returns
returns g c =
    writes_both g.K.Sink.held g.K.Sink.faults c.args.sink.now c.write_all_of.new.sink c.print_extended_log.new.sink (line (codes "same")) (extended_log_text c.args.definitions.now c.args.log.now.steps) tt
    c.print_extended_log.result c.in_ok-write_all_of.ensures c.print_extended_log.ensures
