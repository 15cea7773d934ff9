use Rattle.std.proofs.lemmas.Result.{err_from_is_err_and}
use Rattle.bt_io.proofs.Pieces.{first_failed, second_failed, three_written}
use Rattle.bt_print.specs.FormulaText.{rows_text, clauses_text}
use Rattle.bt_print.specs.Legends.{block_line, mark_block}
use Rattle.bt_print.proofs.formulas.print_flow_formula.Goals as goal

pub returns-in_err-print_marks : goal.returns-in_err-print_marks
returns-in_err-print_marks g c =
    let p = err_from_is_err_and c.from_residual.result c.from_residual.ensures.1 in
    let f = c.args.formula.now in
    rw p.1
    (first_failed g.K.Sink.held g.K.Sink.faults c.args.sink.now c.print_marks.new.sink c.print_marks.new.sink c.print_marks.new.sink (block_line (mark_block c.args.columns))
    (rows_text c.args.columns f) (clauses_text f) _ _ c.in_err-print_marks.ensures)

pub returns-in_err-print_rows : goal.returns-in_err-print_rows
returns-in_err-print_rows g c =
    let p = err_from_is_err_and c.from_residual-in_err-print_rows.result c.from_residual-in_err-print_rows.ensures.1 in
    let f = c.args.formula.now in
    rw p.1
    (second_failed g.K.Sink.held g.K.Sink.faults c.args.sink.now c.print_marks.new.sink c.print_rows.new.sink c.print_rows.new.sink (block_line (mark_block c.args.columns))
    (rows_text c.args.columns f) (clauses_text f) _ _ c.in_ok-print_marks.ensures c.in_err-print_rows.ensures)

pub returns : goal.returns
returns g c =
    let f = c.args.formula.now in
    three_written g.K.Sink.held g.K.Sink.faults c.args.sink.now c.print_marks.new.sink c.print_rows.new.sink c.print_clauses.new.sink (block_line (mark_block c.args.columns))
    (rows_text c.args.columns f) (clauses_text f) c.print_clauses.result c.in_ok-print_marks.ensures c.in_ok-print_rows.ensures c.print_clauses.ensures
