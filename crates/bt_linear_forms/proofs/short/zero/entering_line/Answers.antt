use Rattle.std.specs.declared.alloc.AllocError.{AllocError}
use Rattle.bt_linear_forms.proofs.ShortZeros.{entering_is}
use Rattle.bt_linear_forms.proofs.short.zero.entering_line.Goals as goal

pub returns : goal.returns
returns c = entering_is AllocError c.lone_sum.result c.args.enters c.args.zero.now c.lone_sum.ensures.line c.lone_sum.ensures.sum
