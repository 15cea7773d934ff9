use Rattle.std.proofs.Common.{[], ◌∷◌}
use Rattle.std.proofs.lemmas.Result.{err_from_is_err_and}
use Rattle.bt_io.proofs.Pieces.{first_failed, second_failed, three_written}
use Rattle.bt_log.specs.LogText.{words}
use Rattle.bt_print.specs.FormulaText.{row_head, term_text}
use Rattle.bt_print.proofs.rows.print_row.Goals as goal

pub returns-in_err-print_head : goal.returns-in_err-print_head
returns-in_err-print_head g c =
    let p = err_from_is_err_and c.from_residual.result c.from_residual.ensures.1 in
    let row = c.args.row.now in
    rw p.1
    (first_failed g.K.Sink.held g.K.Sink.faults c.args.sink.now c.print_head.new.sink c.print_head.new.sink c.print_head.new.sink (row_head c.args.place row)
    (words (term_text c.args.columns) row.terms) (10 ∷ []) _ _ c.in_err-print_head.ensures)

pub returns-in_err-print_terms : goal.returns-in_err-print_terms
returns-in_err-print_terms g c =
    let p = err_from_is_err_and c.from_residual-in_err-print_terms.result c.from_residual-in_err-print_terms.ensures.1 in
    let row = c.args.row.now in
    rw p.1
    (second_failed g.K.Sink.held g.K.Sink.faults c.args.sink.now c.print_head.new.sink c.print_terms.new.sink c.print_terms.new.sink (row_head c.args.place row)
    (words (term_text c.args.columns) row.terms) (10 ∷ []) _ _ c.in_ok-print_head.ensures (rw c.terms.ensures.value at c.in_err-print_terms.ensures))

pub returns : goal.returns
returns g c =
    let row = c.args.row.now in
    three_written g.K.Sink.held g.K.Sink.faults c.args.sink.now c.print_head.new.sink c.print_terms.new.sink c.write_all_of.new.sink (row_head c.args.place row)
    (words (term_text c.args.columns) row.terms) (10 ∷ []) c.write_all_of.result c.in_ok-print_head.ensures (rw c.terms.ensures.value at c.in_ok-print_terms.ensures) c.write_all_of.ensures
