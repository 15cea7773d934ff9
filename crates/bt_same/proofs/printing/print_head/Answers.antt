use Rattle.std.specs.Prelude.{codes}
use Rattle.std.proofs.lemmas.Result.{err_from_is_err_and}
use Rattle.bt_io.proofs.Written.{writes_both, writes_no_more}
use Rattle.bt_flow.specs.StateText.{ends_text}
use Rattle.bt_same.proofs.printing.print_head.Goals as goal

pub returns-in_err-write_all_of : goal.returns-in_err-write_all_of
returns-in_err-write_all_of g c =
    let p = err_from_is_err_and c.from_residual.result c.from_residual.ensures.1 in
    rw p.1 (writes_no_more _ _ _ (codes "differ\n") (ends_text c.args.state.now) c.in_err-write_all_of.ensures)

pub returns : goal.returns
returns g c =
    writes_both g.K.Sink.held g.K.Sink.faults c.args.sink.now c.write_all_of.new.sink c.print_ends.new.sink (codes "differ\n") (ends_text c.args.state.now) _ c.print_ends.result c.in_ok-write_all_of.ensures
    c.print_ends.ensures
