use Rattle.std.proofs.Common.{◌++◌, ◌∷◌}
use Rattle.std.specs.Prelude.{codes}
use Rattle.std.proofs.lemmas.Result.{err_from_is_err_and}
use Rattle.bt_frac.specs.Texts.{frac_text}
use Rattle.bt_io.proofs.Pieces.{first_failed, second_failed, three_written}
use Rattle.bt_log.specs.LogText.{words}
use Rattle.bt_extend.specs.Texts.{term_text}
use Rattle.bt_extend.proofs.printing.print_form.Goals as goal

pub returns-in_err-print_number : goal.returns-in_err-print_number
returns-in_err-print_number g c =
    let p = err_from_is_err_and c.from_residual.result c.from_residual.ensures.1 in
    let form = c.args.form.now in
    rw p.1
    (first_failed g.K.Sink.held g.K.Sink.faults c.args.sink.now c.print_number.new.sink c.print_number.new.sink c.print_number.new.sink (c.args.head.now ++ 32 ∷ frac_text form.constant)
    (words term_text form.terms) (codes " 0") _ _ (rw c.constant.ensures.value at c.in_err-print_number.ensures))

pub returns-in_err-print_terms : goal.returns-in_err-print_terms
returns-in_err-print_terms g c =
    let p = err_from_is_err_and c.from_residual-in_err-print_terms.result c.from_residual-in_err-print_terms.ensures.1 in
    let form = c.args.form.now in
    rw p.1
    (second_failed g.K.Sink.held g.K.Sink.faults c.args.sink.now c.print_number.new.sink c.print_terms.new.sink c.print_terms.new.sink (c.args.head.now ++ 32 ∷ frac_text form.constant)
    (words term_text form.terms) (codes " 0") _ _ (rw c.constant.ensures.value at c.in_ok-print_number.ensures) (rw c.terms.ensures.value at c.in_err-print_terms.ensures))

pub returns : goal.returns
returns g c =
    let form = c.args.form.now in
    three_written g.K.Sink.held g.K.Sink.faults c.args.sink.now c.print_number.new.sink c.print_terms.new.sink c.write_all_of.new.sink (c.args.head.now ++ 32 ∷ frac_text form.constant)
    (words term_text form.terms) (codes " 0") c.write_all_of.result (rw c.constant.ensures.value at c.in_ok-print_number.ensures) (rw c.terms.ensures.value at c.in_ok-print_terms.ensures)
    c.write_all_of.ensures
