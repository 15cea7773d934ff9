use Rattle.std.proofs.Common.{◌<◌, arith, length, sym, subst, ◌∙◌, None}
use Rattle.std.proofs.lemmas.List.{get_or_default}
use Rattle.bt_cnf.specs.declared.literal.Lit.{Lit}
use Rattle.bt_watch.specs.inner.PropagatingLit.{PropagatesLit}
use Rattle.bt_watch.proofs.Advancing.{goes_twice}
use Rattle.bt_watch.proofs.Ending.{propagated_next, propagation_ends}
use Rattle.bt_watch.proofs.search.propagate.Goals as goal

pub returns-in-Some : goal.returns-in-Some
returns-in-Some c =
    let now = subst (PropagatesLit c.in_ok-false_lit.false_lit c.loop-head.search c.propagate_lit.new.search) c.in-Some.is c.in_ok-id.ensures in
    (goes_twice c.args.search.now c.loop-head.search c.propagate_lit.new.search c.loop-head.invariant.goes now.0, now.1, now.2 c.loop-head.invariant.propagated.whole)

pub loop-head-preserved : goal.loop-head-preserved
loop-head-preserved c =
    let x = c.index.result.now in
    let begun = subst (PropagatesLit c.in_ok-false_lit.false_lit c.loop-head.search c.propagate_lit.new.search) c.in_default.is c.in_ok-id.ensures in
    let now = subst (λ (l : Lit). PropagatesLit l c.loop-head.search c.propagate_lit.new.search None) (c.in_ok-false_lit.ensures ∙ c.negation.ensures) begun in
    let below : c.loop-head.head < length c.loop-head.search.assignment.trail.items = omega (arith, c.loop-head-test.true, c.len.ensures) in
    record {
      goes = goes_twice c.args.search.now c.loop-head.search c.propagate_lit.new.search c.loop-head.invariant.goes now.0;
      propagated =
          propagated_next c.loop-head.search c.propagate_lit.new.search c.loop-head.head x c.loop-head.invariant.propagated now below
          (λ d. get_or_default c.loop-head.search.assignment.trail.items c.loop-head.head d x below ∙ sym c.index.ensures);
    }

pub returns : goal.returns
returns c = propagation_ends c.args.search.now c.loop-head.search c.loop-head.head c.loop-head.invariant.goes c.loop-head.invariant.propagated (omega (arith, c.loop-head-test.false, c.len.ensures))
