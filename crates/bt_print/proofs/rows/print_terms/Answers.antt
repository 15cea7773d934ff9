use Rattle.std.proofs.Common.{[], ◌∷◌, refl}
use Rattle.std.proofs.lemmas.Result.{err_from_is_err_and}
use Rattle.bt_io.proofs.Pieces.{last_failed}
use Rattle.bt_print.specs.FormulaText.{term_text}
use Rattle.bt_print.proofs.rows.print_terms.Goals as goal

pub returns-in_err-print_term : goal.returns-in_err-print_term
returns-in_err-print_term g c =
    let p = err_from_is_err_and c.from_residual.result c.from_residual.ensures.1 in
    rw p.1
    (last_failed (λ term. 32 ∷ term_text c.args.columns term) c.args.terms.now [] g.K.Sink.held g.K.Sink.faults c.args.sink.now c.loop-term.sink c.print_term.new.sink c.loop-term.term-index c.term-item.result (32 ∷ term_text c.args.columns c.term-item.result) _ _
    c.loop-term.invariant c.loop-term-test.true c.term-item.is refl c.in_err-print_term.ensures)
