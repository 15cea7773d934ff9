use Rattle.std.proofs.Common.{◌∙◌, arith, sym}
use Rattle.bt_linear_forms.proofs.NamedTerms.{passed_none}
use Rattle.bt_linear_forms.proofs.line.found.Goals as goal

pub returns-then-other-position-2 : goal.returns-then-other-position-2
returns-then-other-position-2 c =
    sym (c.loop-other.invariant ∙ passed_none 0 c.args.terms.now c.loop-other.other-index c.loop-other-item.result c.args.position c.requires c.loop-other-test.true c.loop-other-item.is (omega arith))
