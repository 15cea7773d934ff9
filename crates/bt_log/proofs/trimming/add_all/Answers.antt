use Rattle.std.proofs.Common.{◌+◌, arith, take, sym, subst, ap, ◌∙◌}
use Rattle.std.specs.List.{AllZip}
use Rattle.bt_log.specs.Logs.{LogParts}
use Rattle.bt_log.specs.Views.{step_of}
use Rattle.bt_log.specs.Trimming.{IsLeft}
use Rattle.bt_log.proofs.Numbers.{left_more, named_left}
use Rattle.bt_log.proofs.trimming.add_all.Goals as goal

pub add_again-requires-clause-named : goal.add_again-requires-clause-named
add_again-requires-clause-named c =
    named_left c.args.log.now c.args.kept.now.places.items c.loop-number.number c.index-place.result.now c.loop-number.left.first (step_of c.step.result) c.requires.kept.needed (omega arith)
    c.index-place.ensures c.loop-number.invariant.first c.step.ensures

pub loop-number-preserved : goal.loop-number-preserved
loop-number-preserved c =
    let log = c.args.log.now in
    let kept = c.args.kept.now.places.items in
    let (again, is, new) = c.in_ok-add_again.ensures in
    let left = c.loop-number.left in
    record {
      first = ap (λ (l : LogParts). l.first) new ∙ c.loop-number.invariant.first;
      left = subst (AllZip (IsLeft log kept) (take (c.loop-number.number + 1) kept)) (sym (ap (λ (l : LogParts). l.steps) new))
          (left_more log kept c.loop-number.number c.index-place.result.now left.first (step_of c.step.result) again left.steps (omega arith) c.index-place.ensures c.loop-number.invariant.first
          c.step.ensures is c.loop-number.invariant.left);
    }
