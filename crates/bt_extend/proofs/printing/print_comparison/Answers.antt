use Rattle.std.proofs.Common.{Err, [], ◌∷◌, subst}
use Rattle.std.specs.Prelude.{codes}
use Rattle.std.proofs.lemmas.Result.{err_from_is_err_and}
use Rattle.bt_io.specs.Bytes.{WritesText}
use Rattle.bt_io.specs.Passages.{passage}
use Rattle.bt_io.specs.declared.fault.WriteFault.{WriteFault}
use Rattle.bt_io.proofs.Written.{writes_both, writes_no_more}
use Rattle.bt_extend.specs.inner.Printed.{form_after}
use Rattle.bt_extend.proofs.Lines.{comparison_line}
use Rattle.bt_extend.proofs.printing.print_comparison.Goals as goal

pub returns-in_err-print_form : goal.returns-in_err-print_form
returns-in_err-print_form g c =
    let p = err_from_is_err_and c.from_residual.result c.from_residual.ensures.1 in
    let at = passage g.K.Sink.held g.K.Sink.faults c.args.sink.now c.print_form.new.sink in
    rw p.1
    (subst (λ t. WritesText {T = Unit {0}} {E = WriteFault} at t (Err p.0)) (comparison_line c.args.form.now)
    (writes_no_more _ _ at (form_after (codes "p") c.args.form.now) (10 ∷ []) c.in_err-print_form.ensures))

pub returns : goal.returns
returns g c =
    subst (λ t. WritesText (passage g.K.Sink.held g.K.Sink.faults c.args.sink.now c.write_all_of.new.sink) t c.write_all_of.result) (comparison_line c.args.form.now)
    (writes_both g.K.Sink.held g.K.Sink.faults c.args.sink.now c.print_form.new.sink c.write_all_of.new.sink (form_after (codes "p") c.args.form.now) (10 ∷ []) _
    c.write_all_of.result c.in_ok-print_form.ensures c.write_all_of.ensures)
