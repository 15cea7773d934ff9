use Rattle.std.proofs.Common.{IfOk, subst}
use Rattle.bt_linear_forms.specs.inner.Shares.{AreNegatedShares}
use Rattle.bt_linear_forms.proofs.UnfitLines.{zero_formed, zero_formed_fits}
use Rattle.bt_linear_forms.proofs.quotients.zero_line.Goals as goal

pub returns-in-Ok-negated_share-clause-zero : goal.returns-in-Ok-negated_share-clause-zero
returns-in-Ok-negated_share-clause-zero c =
    zero_formed c.args.position c.args.terms.now c.args.number.now c.whole.result c.in-Ok-negated_share.share c.in-Ok.shares.items c.deref.result.now c.whole-in-Ok-negated_share.result c.requires.line c.requires.number c.requires.lacks
    c.whole.ensures c.in-Ok-negated_share.ensures.share (subst (λ o. IfOk o (λ v. AreNegatedShares c.args.number.now c.args.terms.now v.items)) c.in-Ok.is c.in_ok-shares.ensures.shares) c.deref.ensures.value c.whole-in-Ok-negated_share.ensures c.combined.result
    c.combined.ensures.line c.combined.ensures.sum

pub returns-in-Ok-negated_share-clause-unfit : goal.returns-in-Ok-negated_share-clause-unfit
returns-in-Ok-negated_share-clause-unfit c =
    zero_formed_fits c.args.position c.args.terms.now c.args.number.now c.whole.result c.in-Ok-negated_share.share c.in-Ok.shares.items c.deref.result.now c.whole-in-Ok-negated_share.result c.requires.line c.requires.number c.requires.lacks
    c.whole.ensures c.in-Ok-negated_share.ensures.share (subst (λ o. IfOk o (λ v. AreNegatedShares c.args.number.now c.args.terms.now v.items)) c.in-Ok.is c.in_ok-shares.ensures.shares) c.deref.ensures.value c.whole-in-Ok-negated_share.ensures c.combined.result
    c.combined.ensures.unfit
