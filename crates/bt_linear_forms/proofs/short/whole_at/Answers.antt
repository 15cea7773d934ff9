use Rattle.std.proofs.Common.{◌<◌, ◌∙◌, sym, subst}
use Rattle.bt_linear_forms.proofs.ShortWalks.{whole_passed}
use Rattle.bt_linear_forms.proofs.short.whole_at.Goals as goal

pub returns-then-other-position-2 : goal.returns-then-other-position-2
returns-then-other-position-2 c =
    sym (c.loop-entry.invariant ∙ whole_passed 0 c.args.terms.now c.loop-entry.entry-index c.entry-item.result c.args.position c.requires c.loop-entry-test.true (subst (λ e. c.args.position < e.0) c.entry-item.is (subst (λ n. c.args.position < n) c.position-other.ensures c.if-other-position-2.true)))
