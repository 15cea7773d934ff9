use Rattle.std.proofs.Common.{◌+◌, ◌≤◌, arith, length, subst, sym, take}
use Rattle.std.specs.List.{AllZip}
use Rattle.std.proofs.lemmas.List.{take_all}
use Rattle.std.proofs.lemmas.List.Elements.{all_zip_more}
use Rattle.bt_linear_forms.specs.inner.Shares.{IsNegatedShare}
use Rattle.bt_linear_forms.proofs.NamedTerms.{item_named}
use Rattle.bt_linear_forms.proofs.Shares.{shares_line}
use Rattle.bt_linear_forms.proofs.UnfitLines.{term_unfit}
use Rattle.bt_linear_forms.proofs.quotients.divided.Goals as goal

pub returns-in-Err-clause-unfit : goal.returns-in-Err-clause-unfit
returns-in-Err-clause-unfit c =
    term_unfit c.args.terms.now c.loop-position-item.result c.args.by.now c.in-Err.unfit
    (item_named c.args.terms.now c.loop-position.position-index c.loop-position-item.result c.requires.line c.loop-position-test.true c.loop-position-item.is) c.in-Err.ensures.unfit

pub loop-position-preserved : goal.loop-position-preserved
loop-position-preserved c =
    subst (λ items. AllZip (IsNegatedShare c.args.by.now) (take (c.loop-position.position-index + 1) c.args.terms.now) items) (sym c.in_ok-push-in-Ok.ensures.items)
    (all_zip_more (IsNegatedShare c.args.by.now) c.args.terms.now c.loop-position.shares.items c.loop-position.position-index c.loop-position-item.result c.in-Ok.share c.loop-position-test.true
    c.loop-position-item.is c.loop-position.invariant c.in-Ok.ensures.share)

pub returns-clause-shares : goal.returns-clause-shares
returns-clause-shares c =
    let past : length c.args.terms.now ≤ c.loop-position.position-index = omega arith in
    let each = subst (λ l. AllZip (IsNegatedShare c.args.by.now) l c.loop-position.shares.items) (take_all c.loop-position.position-index c.args.terms.now past) c.loop-position.invariant in
    record { line = shares_line c.args.by.now 0 c.args.terms.now c.loop-position.shares.items c.requires.lowest.positive c.requires.line each; each = each }
