use Rattle.std.proofs.Common.{◌∙◌, sym, subst}
use Rattle.bt_linear_forms.specs.inner.Steps.{IsStep}
use Rattle.bt_linear_forms.proofs.Walks.{IsWalk, walk_begins, walk_stays, walk_grows, walk_ends, kept_unfit}
use Rattle.bt_linear_forms.proofs.merging.merged.Goals as goal

pub loop-first-init : goal.loop-first-init
loop-first-init c =
    subst (λ items. IsWalk c.args.left.now c.args.factor.now c.args.right.now items c.args.left.now c.args.right.now) (sym (c.reserve.ensures.items ∙ c.clear.ensures.items))
    (walk_begins c.args.left.now c.args.factor.now c.args.right.now c.requires.lowest c.requires.left c.requires.right)

pub loop-first-preserved-in_ok-push-in-Ok : goal.loop-first-preserved-in_ok-push-in-Ok
loop-first-preserved-in_ok-push-in-Ok c =
    let step = subst (λ t. IsStep c.loop-first.first.now c.args.factor.now c.loop-first.second.now t c.in-Ok.first_rest.now c.in-Ok.second_rest.now) c.in-Some.is c.in-Ok.ensures.step in
    subst (λ items. IsWalk c.args.left.now c.args.factor.now c.args.right.now items c.in-Ok.first_rest.now c.in-Ok.second_rest.now) (sym c.in_ok-push-in-Ok.ensures.items)
    (walk_grows c.args.left.now c.args.factor.now c.args.right.now c.loop-first.terms.items c.loop-first.first.now c.loop-first.second.now c.in-Ok.first_rest.now c.in-Ok.second_rest.now
    c.requires.lowest c.in-Some.term c.loop-first.invariant step)

pub loop-first-preserved : goal.loop-first-preserved
loop-first-preserved c =
    let step = subst (λ t. IsStep c.loop-first.first.now c.args.factor.now c.loop-first.second.now t c.in-Ok.first_rest.now c.in-Ok.second_rest.now) c.in_default.is c.in-Ok.ensures.step in
    walk_stays c.args.left.now c.args.factor.now c.args.right.now c.loop-first.terms.items c.loop-first.first.now c.loop-first.second.now c.in-Ok.first_rest.now c.in-Ok.second_rest.now
    c.requires.lowest c.loop-first.invariant step

pub returns-in-Err-clause-unfit : goal.returns-in-Err-clause-unfit
returns-in-Err-clause-unfit c =
    kept_unfit c.args.left.now c.args.factor.now c.args.right.now c.loop-first.first.now c.loop-first.second.now c.in-Err.unfit c.loop-first.invariant.first_named c.loop-first.invariant.second_named
    c.in-Err.ensures.unfit

pub returns-clause-sum : goal.returns-clause-sum
returns-clause-sum c =
    let done = c.are_empty.ensures.0 c.loop-first-test.false in
    walk_ends c.args.left.now c.args.factor.now c.args.right.now c.loop-first.terms.items c.loop-first.first.now c.loop-first.second.now c.requires.lowest done.0 done.1 c.loop-first.invariant
