use Rattle.std.proofs.Common.{◌≡◌, take}
use Rattle.bt_extend.specs.Forms as forms
use Rattle.bt_extend.proofs.extension.turned.Given as goal

abbrev pub invariant-loop-column : goal.invariant-loop-column
invariant-loop-column l = l.turned.items ≡ forms.turned (take l.column-index l.terms)
