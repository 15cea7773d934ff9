use Rattle.std.proofs.Common.{Err, [], ◌∷◌, ◌++◌, ◌+◌, subst}
use Rattle.std.specs.Prelude.{codes}
use Rattle.std.specs.Fmt.{decimal}
use Rattle.std.proofs.lemmas.Result.{err_from_is_err_and}
use Rattle.bt_io.specs.Bytes.{WritesText}
use Rattle.bt_io.specs.Passages.{passage}
use Rattle.bt_io.specs.declared.fault.WriteFault.{WriteFault}
use Rattle.bt_io.proofs.Pieces.{first_failed, second_failed, three_written}
use Rattle.bt_extend.specs.inner.Printed.{forms_after}
use Rattle.bt_extend.proofs.Lines.{cases_line}
use Rattle.bt_extend.proofs.printing.print_cases.Goals as goal

pub returns-in_err-print_variable : goal.returns-in_err-print_variable
returns-in_err-print_variable g c =
    let p = err_from_is_err_and c.from_residual.result c.from_residual.ensures.1 in
    rw p.1
    (subst (λ t. WritesText {T = Unit {0}} {E = WriteFault} (passage g.K.Sink.held g.K.Sink.faults c.args.sink.now c.print_variable.new.sink) t (Err p.0)) (cases_line c.args.var c.args.first.now c.args.second.now)
    (first_failed g.K.Sink.held g.K.Sink.faults c.args.sink.now c.print_variable.new.sink c.print_variable.new.sink c.print_variable.new.sink
    (codes "c " ++ decimal (c.args.var + 1)) (forms_after c.args.first.now c.args.second.now) (10 ∷ []) _ _ c.in_err-print_variable.ensures))

pub returns-in_err-print_forms : goal.returns-in_err-print_forms
returns-in_err-print_forms g c =
    let p = err_from_is_err_and c.from_residual-in_err-print_forms.result c.from_residual-in_err-print_forms.ensures.1 in
    rw p.1
    (subst (λ t. WritesText {T = Unit {0}} {E = WriteFault} (passage g.K.Sink.held g.K.Sink.faults c.args.sink.now c.print_forms.new.sink) t (Err p.0)) (cases_line c.args.var c.args.first.now c.args.second.now)
    (second_failed g.K.Sink.held g.K.Sink.faults c.args.sink.now c.print_variable.new.sink c.print_forms.new.sink c.print_forms.new.sink
    (codes "c " ++ decimal (c.args.var + 1)) (forms_after c.args.first.now c.args.second.now) (10 ∷ []) _ _ c.in_ok-print_variable.ensures c.in_err-print_forms.ensures))

pub returns : goal.returns
returns g c =
    subst (λ t. WritesText (passage g.K.Sink.held g.K.Sink.faults c.args.sink.now c.write_all_of.new.sink) t c.write_all_of.result) (cases_line c.args.var c.args.first.now c.args.second.now)
    (three_written g.K.Sink.held g.K.Sink.faults c.args.sink.now c.print_variable.new.sink c.print_forms.new.sink c.write_all_of.new.sink
    (codes "c " ++ decimal (c.args.var + 1)) (forms_after c.args.first.now c.args.second.now) (10 ∷ []) c.write_all_of.result
    c.in_ok-print_variable.ensures c.in_ok-print_forms.ensures c.write_all_of.ensures)
