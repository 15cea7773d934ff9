use Rattle.std.proofs.Common.{take}
use Rattle.std.specs.List.{AllZip}
use Rattle.bt_linear_forms.specs.inner.Shares.{IsNegatedShare}
use Rattle.bt_linear_forms.proofs.quotients.divided.Given as goal

abbrev pub invariant-loop-position : goal.invariant-loop-position
invariant-loop-position l = AllZip (IsNegatedShare l.by) (take l.position-index l.terms) l.shares.items
