use Rattle.std.specs.Prelude.{codes}
use Rattle.std.proofs.lemmas.Result.{err_from_is_err_and}
use Rattle.bt_io.specs.Passages.{passage}
use Rattle.bt_io.proofs.Written.{writes_both, writes_no_more}
use Rattle.bt_extend.specs.inner.Printed.{form_after}
use Rattle.bt_extend.proofs.printing.print_forms.Goals as goal

pub returns-in_err-print_form : goal.returns-in_err-print_form
returns-in_err-print_form g c =
    let p = err_from_is_err_and c.from_residual.result c.from_residual.ensures.1 in
    rw p.1
    (writes_no_more _ _ (passage g.K.Sink.held g.K.Sink.faults c.args.sink.now c.print_form.new.sink) (form_after (codes "") c.args.first.now)
    (form_after (codes "") c.args.second.now) c.in_err-print_form.ensures)

pub returns : goal.returns
returns g c =
    writes_both g.K.Sink.held g.K.Sink.faults c.args.sink.now c.print_form.new.sink c.print_form-2.new.sink (form_after (codes "") c.args.first.now)
    (form_after (codes "") c.args.second.now) _ c.print_form-2.result c.in_ok-print_form.ensures c.print_form-2.ensures
