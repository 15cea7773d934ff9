use Rattle.std.proofs.Common.{◌≡◌, ◌++◌, length, ◌∙◌, ap, arith}
use Rattle.std.specs.Prelude.{codes, decimal}
use Rattle.std.proofs.lemmas.Result.{err_from_is_err_and}
use Rattle.bt_text.specs.Lines.{line}
use Rattle.bt_io.proofs.Pieces.{first_failed, second_failed, three_written}
use Rattle.bt_print.specs.TraceText.{trace_text}
use Rattle.bt_print.proofs.traces.print_pivots.Goals as goal

pub returns-in_err-write_pieces : goal.returns-in_err-write_pieces
returns-in_err-write_pieces g c =
    let p = err_from_is_err_and c.from_residual.result c.from_residual.ensures.1 in
    let t = c.args.trace.now in
    let count : c.len.result ≡ length t.steps.items = omega (arith, c.len.ensures, t.steps.ok.0) in
    rw p.1
    (first_failed g.K.Sink.held g.K.Sink.faults c.args.sink.now c.write_pieces.new.sink c.write_pieces.new.sink c.write_pieces.new.sink (line (codes "pivots " ++ decimal (length t.steps.items))) (trace_text t)
    (line (codes "end")) _ _ (rw (c.as_bytes-steps.ensures.value ∙ c.format.ensures.text ∙ ap decimal count) at c.in_err-write_pieces.ensures))

pub returns-in_err-print_trace : goal.returns-in_err-print_trace
returns-in_err-print_trace g c =
    let p = err_from_is_err_and c.from_residual-in_err-print_trace.result c.from_residual-in_err-print_trace.ensures.1 in
    let t = c.args.trace.now in
    let count : c.len.result ≡ length t.steps.items = omega (arith, c.len.ensures, t.steps.ok.0) in
    rw p.1
    (second_failed g.K.Sink.held g.K.Sink.faults c.args.sink.now c.write_pieces.new.sink c.print_trace.new.sink c.print_trace.new.sink (line (codes "pivots " ++ decimal (length t.steps.items))) (trace_text t)
    (line (codes "end")) _ _ (rw (c.as_bytes-steps.ensures.value ∙ c.format.ensures.text ∙ ap decimal count) at c.in_ok-write_pieces.ensures) c.in_err-print_trace.ensures)

pub returns : goal.returns
returns g c =
    let t = c.args.trace.now in
    let count : c.len.result ≡ length t.steps.items = omega (arith, c.len.ensures, t.steps.ok.0) in
    three_written g.K.Sink.held g.K.Sink.faults c.args.sink.now c.write_pieces.new.sink c.print_trace.new.sink c.write_all_of.new.sink (line (codes "pivots " ++ decimal (length t.steps.items))) (trace_text t)
    (line (codes "end")) c.write_all_of.result (rw (c.as_bytes-steps.ensures.value ∙ c.format.ensures.text ∙ ap decimal count) at c.in_ok-write_pieces.ensures) c.in_ok-print_trace.ensures c.write_all_of.ensures
