use Rattle.std.specs.Prelude.{codes}
use Rattle.std.proofs.lemmas.Result.{err_from_is_err_and}
use Rattle.bt_io.proofs.Written.{writes_both, writes_no_more}
use Rattle.bt_flow.specs.StateText.{edges_text}
use Rattle.bt_same.proofs.printing.print_tail.Goals as goal

pub returns-in_err-print_edges : goal.returns-in_err-print_edges
returns-in_err-print_edges g c =
    let p = err_from_is_err_and c.from_residual.result c.from_residual.ensures.1 in
    rw p.1 (writes_no_more _ _ _ (edges_text c.args.state.now) (codes "end\n") c.in_err-print_edges.ensures)

pub returns : goal.returns
returns g c =
    writes_both g.K.Sink.held g.K.Sink.faults c.args.sink.now c.print_edges.new.sink c.write_all_of.new.sink (edges_text c.args.state.now) (codes "end\n") _ c.write_all_of.result c.in_ok-print_edges.ensures
    c.write_all_of.ensures
