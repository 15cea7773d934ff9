use Rattle.std.proofs.Common.{[], get_or, refl}
use Rattle.std.proofs.lemmas.List.{get_or_default}
use Rattle.std.proofs.lemmas.Result.{err_from_is_err_and}
use Rattle.bt_io.proofs.Pieces.{last_failed}
use Rattle.bt_pivot.specs.declared.basis.Pivot.{Pivot}
use Rattle.bt_print.specs.TraceText.{pivot_line}
use Rattle.bt_print.proofs.traces.print_pivot_lines.Goals as goal

-- what stands for a pivot past the last one
abbrev none : Pivot
none = record { leaves = 0; enters = 0 }

pub returns-in_err-print_pivot : goal.returns-in_err-print_pivot
returns-in_err-print_pivot g c =
    let p = err_from_is_err_and c.from_residual.result c.from_residual.ensures.1 in
    let x = get_or c.args.steps.now c.loop-step.step-index none in
    rw p.1
    (last_failed pivot_line c.args.steps.now [] g.K.Sink.held g.K.Sink.faults c.args.sink.now c.loop-step.sink c.print_pivot.new.sink c.loop-step.step-index x (pivot_line x) _ _
    c.loop-step.invariant c.loop-step-test.true (get_or_default c.args.steps.now c.loop-step.step-index none x c.loop-step-test.true) refl c.in_err-print_pivot.ensures)
