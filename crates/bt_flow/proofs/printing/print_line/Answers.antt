use Rattle.std.proofs.Common.{[], ◌∷◌, ◌++◌}
use Rattle.std.proofs.lemmas.Result.{err_from_is_err_and}
use Rattle.bt_io.proofs.Written.{writes_both, writes_no_more}
use Rattle.bt_flow.specs.inner.Printing.{words}
use Rattle.bt_flow.proofs.Printed.{words_spaced}
use Rattle.bt_flow.proofs.printing.print_line.Goals as goal

pub returns : goal.returns
returns g c =
    rw (← words_spaced g.T.Spelled.word c.args.items.now)
    (writes_both g.K.Sink.held g.K.Sink.faults c.args.sink.now c.print_words.new.sink c.write_all_of.new.sink (c.args.name.now ++ words g.T.Spelled.word c.args.items.now) (10 ∷ []) _ c.write_all_of.result c.in_ok-print_words.ensures
    c.write_all_of.ensures)

pub returns-in_err-print_words : goal.returns-in_err-print_words
returns-in_err-print_words g c =
    let p = err_from_is_err_and c.from_residual.result c.from_residual.ensures.1 in
    rw (p.1, ← words_spaced g.T.Spelled.word c.args.items.now) (writes_no_more _ _ _ (c.args.name.now ++ words g.T.Spelled.word c.args.items.now) (10 ∷ []) c.in_err-print_words.ensures)
