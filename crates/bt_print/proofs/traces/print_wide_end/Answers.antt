use Rattle.std.proofs.Common.{◌∙◌}
use Rattle.bt_print.proofs.traces.print_wide_end.Goals as goal

pub returns : goal.returns
returns g c =
    let operation = c.as_bytes-operation.ensures.value ∙ c.operation_name.ensures in
    rw operation at (rw c.text-left_len.ensures.written at (rw c.text-right_len.ensures.written at c.print_end.ensures))
