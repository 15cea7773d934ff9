use Rattle.std.proofs.Common.{◌++◌}
use Rattle.std.specs.Prelude.{codes}
use Rattle.std.proofs.lemmas.Result.{err_from_is_err_and}
use Rattle.bt_io.proofs.Pieces.{first_failed, second_failed, three_written}
use Rattle.bt_flow.specs.StateText.{ends_text, edges_text}
use Rattle.bt_same.proofs.PairPrinted.{parts_are}
use Rattle.bt_same.proofs.printing.print_pair.Goals as goal

pub returns-in_err-print_head : goal.returns-in_err-print_head
returns-in_err-print_head g c =
    let p = err_from_is_err_and c.from_residual.result c.from_residual.ensures.1 in
    let pair = c.args.pair.now in
    rw (p.1, ← parts_are pair)
    (first_failed g.K.Sink.held g.K.Sink.faults c.args.sink.now c.print_head.new.sink c.print_head.new.sink c.print_head.new.sink (codes "differ\n" ++ ends_text pair.first) (edges_text pair.first)
    (edges_text pair.second ++ codes "end\n") _ _ c.in_err-print_head.ensures)

pub returns-in_err-print_edges : goal.returns-in_err-print_edges
returns-in_err-print_edges g c =
    let p = err_from_is_err_and c.from_residual-in_err-print_edges.result c.from_residual-in_err-print_edges.ensures.1 in
    let pair = c.args.pair.now in
    rw (p.1, ← parts_are pair)
    (second_failed g.K.Sink.held g.K.Sink.faults c.args.sink.now c.print_head.new.sink c.print_edges.new.sink c.print_edges.new.sink (codes "differ\n" ++ ends_text pair.first) (edges_text pair.first)
    (edges_text pair.second ++ codes "end\n") _ _ c.in_ok-print_head.ensures c.in_err-print_edges.ensures)

pub returns : goal.returns
returns g c =
    let pair = c.args.pair.now in
    rw (← parts_are pair)
    (three_written g.K.Sink.held g.K.Sink.faults c.args.sink.now c.print_head.new.sink c.print_edges.new.sink c.print_tail.new.sink (codes "differ\n" ++ ends_text pair.first) (edges_text pair.first)
    (edges_text pair.second ++ codes "end\n") c.print_tail.result c.in_ok-print_head.ensures c.in_ok-print_edges.ensures c.print_tail.ensures)
