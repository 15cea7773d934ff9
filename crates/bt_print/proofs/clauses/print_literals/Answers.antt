use Rattle.std.proofs.Common.{[], ◌∷◌, ◌++◌, refl}
use Rattle.std.proofs.lemmas.Result.{err_from_is_err_and}
use Rattle.bt_io.proofs.Pieces.{last_failed}
use Rattle.bt_log.specs.LogText.{lit_text}
use Rattle.bt_print.proofs.clauses.print_literals.Goals as goal

pub returns-in_err-print_literal : goal.returns-in_err-print_literal
returns-in_err-print_literal g c =
    let p = err_from_is_err_and c.from_residual.result c.from_residual.ensures.1 in
    rw p.1
    (last_failed (λ lit. lit_text lit ++ 32 ∷ []) c.args.lits.now [] g.K.Sink.held g.K.Sink.faults c.args.sink.now c.loop-lit.sink c.print_literal.new.sink c.loop-lit.lit-index c.lit-item.result (lit_text c.lit-item.result ++ 32 ∷ []) _ _
    c.loop-lit.invariant c.loop-lit-test.true c.lit-item.is refl c.in_err-print_literal.ensures)
