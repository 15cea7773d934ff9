use Rattle.std.proofs.Common.{◌++◌}
use Rattle.std.specs.Prelude.{codes}
use Rattle.std.specs.List.{flat_map}
use Rattle.std.proofs.lemmas.Result.{err_from_is_err_and}
use Rattle.bt_io.proofs.Pieces.{first_failed, second_failed, three_written}
use Rattle.bt_net.specs.NetText.{line, header, edge_text}
use Rattle.bt_net.specs.Priorities.{priorities_text}
use Rattle.bt_print.proofs.networks.print.Goals as goal

pub returns-in_err-print_edges : goal.returns-in_err-print_edges
returns-in_err-print_edges g c =
    let p = err_from_is_err_and c.from_residual.result c.from_residual.ensures.1 in
    let n = c.args.net.now in
    rw p.1
    (first_failed g.K.Sink.held g.K.Sink.faults c.args.sink.now c.print_edges.new.sink c.print_edges.new.sink c.print_edges.new.sink
    (line (header n) ++ flat_map (λ e. line (edge_text e)) n.edges) (priorities_text n) (line (codes "end")) _ _ c.in_err-print_edges.ensures)

pub returns-in_err-print_priorities : goal.returns-in_err-print_priorities
returns-in_err-print_priorities g c =
    let p = err_from_is_err_and c.from_residual-in_err-print_priorities.result c.from_residual-in_err-print_priorities.ensures.1 in
    let n = c.args.net.now in
    rw p.1
    (second_failed g.K.Sink.held g.K.Sink.faults c.args.sink.now c.print_edges.new.sink c.print_priorities.new.sink c.print_priorities.new.sink
    (line (header n) ++ flat_map (λ e. line (edge_text e)) n.edges) (priorities_text n) (line (codes "end")) _ _ c.in_ok-print_edges.ensures c.in_err-print_priorities.ensures)

pub returns : goal.returns
returns g c =
    let n = c.args.net.now in
    three_written g.K.Sink.held g.K.Sink.faults c.args.sink.now c.print_edges.new.sink c.print_priorities.new.sink c.write_all_of.new.sink
    (line (header n) ++ flat_map (λ e. line (edge_text e)) n.edges) (priorities_text n) (line (codes "end")) c.write_all_of.result c.in_ok-print_edges.ensures c.in_ok-print_priorities.ensures c.write_all_of.ensures
