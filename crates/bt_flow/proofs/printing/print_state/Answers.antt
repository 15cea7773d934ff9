use Rattle.std.specs.Prelude.{codes}
use Rattle.std.proofs.lemmas.Result.{err_from_is_err_and}
use Rattle.bt_io.proofs.Pieces.{first_failed, second_failed, three_written}
use Rattle.bt_flow.specs.StateText.{edges_text}
use Rattle.bt_flow.specs.inner.Printing.{head_text}
use Rattle.bt_flow.proofs.Printed.{parts_are}
use Rattle.bt_flow.proofs.printing.print_state.Goals as goal

pub returns-in_err-print_head : goal.returns-in_err-print_head
returns-in_err-print_head g c =
    let p = err_from_is_err_and c.from_residual.result c.from_residual.ensures.1 in
    let t = c.args.state.now in
    rw (p.1, ← parts_are c.args.property t)
    (first_failed g.K.Sink.held g.K.Sink.faults c.args.sink.now c.print_head.new.sink c.print_head.new.sink c.print_head.new.sink (head_text c.args.property t) (edges_text t) (codes "end\n") _ _ c.in_err-print_head.ensures)

pub returns-in_err-print_edges : goal.returns-in_err-print_edges
returns-in_err-print_edges g c =
    let p = err_from_is_err_and c.from_residual-in_err-print_edges.result c.from_residual-in_err-print_edges.ensures.1 in
    let t = c.args.state.now in
    rw (p.1, ← parts_are c.args.property t)
    (second_failed g.K.Sink.held g.K.Sink.faults c.args.sink.now c.print_head.new.sink c.print_edges.new.sink c.print_edges.new.sink (head_text c.args.property t) (edges_text t) (codes "end\n") _ _ c.in_ok-print_head.ensures
    c.in_err-print_edges.ensures)

pub returns : goal.returns
returns g c =
    let t = c.args.state.now in
    rw (← parts_are c.args.property t)
    (three_written g.K.Sink.held g.K.Sink.faults c.args.sink.now c.print_head.new.sink c.print_edges.new.sink c.write_all_of.new.sink (head_text c.args.property t) (edges_text t) (codes "end\n") c.write_all_of.result
    c.in_ok-print_head.ensures c.in_ok-print_edges.ensures c.write_all_of.ensures)
