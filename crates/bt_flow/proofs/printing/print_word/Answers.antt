use Rattle.std.specs.Prelude.{codes}
use Rattle.std.proofs.lemmas.Result.{err_from_is_err_and}
use Rattle.bt_io.proofs.Written.{writes_both, writes_no_more}
use Rattle.bt_flow.proofs.printing.print_word.Goals as goal

pub returns : goal.returns
returns g c =
    writes_both g.K.Sink.held g.K.Sink.faults c.args.sink.now c.write_all_of.new.sink c.write_all_of-2.new.sink (codes " ") (g.T.Spelled.word c.args.item.now) _ c.write_all_of-2.result c.in_ok-write_all_of.ensures
    (rw c.spell-len.ensures.written at c.write_all_of-2.ensures)

pub returns-in_err-write_all_of : goal.returns-in_err-write_all_of
returns-in_err-write_all_of g c =
    let p = err_from_is_err_and c.from_residual.result c.from_residual.ensures.1 in
    rw p.1 (writes_no_more _ _ _ (codes " ") (g.T.Spelled.word c.args.item.now) c.in_err-write_all_of.ensures)
