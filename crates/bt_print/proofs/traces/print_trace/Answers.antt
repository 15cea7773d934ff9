use Rattle.std.proofs.Common.{◌++◌}
use Rattle.std.specs.Prelude.{codes}
use Rattle.std.proofs.lemmas.Result.{err_from_is_err_and}
use Rattle.bt_text.specs.Lines.{line}
use Rattle.bt_io.proofs.Pieces.{first_failed, second_failed, three_written}
use Rattle.bt_print.specs.TraceText.{numbers_text, pivot_lines}
use Rattle.bt_print.proofs.traces.print_trace.Goals as goal

pub returns-in_err-print_numbers : goal.returns-in_err-print_numbers
returns-in_err-print_numbers g c =
    let p = err_from_is_err_and c.from_residual.result c.from_residual.ensures.1 in
    let t = c.args.trace.now in
    rw p.1
    (first_failed g.K.Sink.held g.K.Sink.faults c.args.sink.now c.print_numbers.new.sink c.print_numbers.new.sink c.print_numbers.new.sink (line (codes "start" ++ numbers_text t.start.items)) (line (codes "bound" ++ numbers_text t.bound.items))
    (pivot_lines t.steps.items) _ _ (rw c.deref.ensures.value at c.in_err-print_numbers.ensures))

pub returns-in_err-print_numbers-2 : goal.returns-in_err-print_numbers-2
returns-in_err-print_numbers-2 g c =
    let p = err_from_is_err_and c.from_residual-in_err-print_numbers-2.result c.from_residual-in_err-print_numbers-2.ensures.1 in
    let t = c.args.trace.now in
    rw p.1
    (second_failed g.K.Sink.held g.K.Sink.faults c.args.sink.now c.print_numbers.new.sink c.print_numbers-2.new.sink c.print_numbers-2.new.sink (line (codes "start" ++ numbers_text t.start.items)) (line (codes "bound" ++ numbers_text t.bound.items))
    (pivot_lines t.steps.items) _ _ (rw c.deref.ensures.value at c.in_ok-print_numbers.ensures) (rw c.deref-2.ensures.value at c.in_err-print_numbers-2.ensures))

pub returns : goal.returns
returns g c =
    let t = c.args.trace.now in
    three_written g.K.Sink.held g.K.Sink.faults c.args.sink.now c.print_numbers.new.sink c.print_numbers-2.new.sink c.print_pivot_lines.new.sink (line (codes "start" ++ numbers_text t.start.items)) (line (codes "bound" ++ numbers_text t.bound.items))
    (pivot_lines t.steps.items) c.print_pivot_lines.result (rw c.deref.ensures.value at c.in_ok-print_numbers.ensures) (rw c.deref-2.ensures.value at c.in_ok-print_numbers-2.ensures) (rw c.deref-3.ensures.value at c.print_pivot_lines.ensures)
