use Rattle.std.proofs.lemmas.Result.{err_from_is_err_and}
use Rattle.bt_io.proofs.Pieces.{first_failed, second_failed, three_written}
use Rattle.bt_print.specs.TraceText.{trace_text, wide_head, wide_end}
use Rattle.bt_print.proofs.traces.print_wide.Goals as goal

pub returns-in_err-print_wide_head : goal.returns-in_err-print_wide_head
returns-in_err-print_wide_head g c =
    let p = err_from_is_err_and c.from_residual.result c.from_residual.ensures.1 in
    let w = c.args.wide.now in
    rw p.1
    (first_failed g.K.Sink.held g.K.Sink.faults c.args.sink.now c.print_wide_head.new.sink c.print_wide_head.new.sink c.print_wide_head.new.sink (wide_head w) (trace_text w.trace) (wide_end w) _ _
    c.in_err-print_wide_head.ensures)

pub returns-in_err-print_trace : goal.returns-in_err-print_trace
returns-in_err-print_trace g c =
    let p = err_from_is_err_and c.from_residual-in_err-print_trace.result c.from_residual-in_err-print_trace.ensures.1 in
    let w = c.args.wide.now in
    rw p.1
    (second_failed g.K.Sink.held g.K.Sink.faults c.args.sink.now c.print_wide_head.new.sink c.print_trace.new.sink c.print_trace.new.sink (wide_head w) (trace_text w.trace) (wide_end w) _ _
    c.in_ok-print_wide_head.ensures c.in_err-print_trace.ensures)

pub returns : goal.returns
returns g c =
    let w = c.args.wide.now in
    three_written g.K.Sink.held g.K.Sink.faults c.args.sink.now c.print_wide_head.new.sink c.print_trace.new.sink c.print_wide_end.new.sink (wide_head w) (trace_text w.trace) (wide_end w)
    c.print_wide_end.result c.in_ok-print_wide_head.ensures c.in_ok-print_trace.ensures c.print_wide_end.ensures
