use Rattle.std.proofs.Common.{◌<◌, arith, length, set, get_or, IfOk, ap, sym, subst}
use Rattle.bt_pivot.specs.declared.sum_cache.SumCache.{SumCache}
use Rattle.bt_linear_forms.specs.Changes.{IsChange}
use Rattle.bt_pivot.specs.inner.SumCache.{Carries, Forgets}
use Rattle.bt_linear_forms.specs.Substituting.{IsSubstituted}
use Rattle.bt_pivot.proofs.Changing.{lacks_more, made_more, long_more}
use Rattle.bt_pivot.proofs.pivoting.substitute.Goals.{in-Lacks, in-Made, in-Long+in_ok-change_long-in-Long+in-Ok}
use Rattle.bt_pivot.proofs.pivoting.substitute.Goals as goal

pub loop-i-preserved : goal.loop-i-preserved
loop-i-preserved c =
    let inside : c.loop-i.i < length c.loop-i.slots = omega arith in
    elim c.match-branch-2.branch [
      | in-Lacks w ↦
          lacks_more c.args.tableau.now c.all_known.ensures c.args.enters c.args.zero.now c.args.slots.now c.loop-i.slots c.match-branch-2.slots c.loop-i.i c.index-slots-i.result c.change.new.slot c.args.kept.now.sums.items c.loop-i.kept.sums.items c.match-branch-2.kept.sums.items inside c.loop-i.invariant.partly c.loop-i.invariant.stay
          (subst (λ x. IsChange c.args.enters c.args.zero.now (get_or c.loop-i.slots c.loop-i.i c.index-slots-i.result) c.change.new.slot x) w.in-Lacks.is c.in_ok-change.ensures) w.slots-is
          (ap (λ (k : SumCache). k.sums.items) w.kept-is)
      | in-Made w ↦
          made_more c.args.tableau.now c.all_known.ensures c.args.enters c.args.zero.now c.args.slots.now c.loop-i.slots c.match-branch-2.slots c.loop-i.i c.index-slots-i.result c.change.new.slot c.args.kept.now.sums.items c.loop-i.kept.sums.items c.match-branch-2.kept.sums.items inside c.loop-i.invariant.partly c.loop-i.invariant.stay
          c.sums_of-others.result w.in-Made.scales c.sums_of-others.ensures.same
          (subst (λ x. IsChange c.args.enters c.args.zero.now (get_or c.loop-i.slots c.loop-i.i c.index-slots-i.result) c.change.new.slot x) w.in-Made.is c.in_ok-change.ensures) w.slots-is
          (subst (λ (k : SumCache). Carries c.loop-i.i c.sums_of-others.result w.in-Made.scales c.loop-i.kept.sums.items k.sums.items) (sym w.kept-is) w.carry.ensures)
      | in-Long+in_ok-change_long-in-Long+in-Ok w ↦
          long_more c.args.tableau.now c.all_known.ensures c.args.enters c.args.zero.now c.args.slots.now c.loop-i.slots c.match-branch-2.slots c.loop-i.i c.index-slots-i.result w.change_long.new.slot c.args.kept.now.sums.items c.loop-i.kept.sums.items c.match-branch-2.kept.sums.items inside c.loop-i.invariant.partly c.loop-i.invariant.stay
          c.change.new.slot w.index-slots-i-in-Long.result
          (subst (λ x. IsChange c.args.enters c.args.zero.now (get_or c.loop-i.slots c.loop-i.i c.index-slots-i.result) c.change.new.slot x) w.in-Long.is c.in_ok-change.ensures) w.slots-is
          (subst (λ o. IfOk o (λ d. IsSubstituted c.args.enters c.args.zero.now (get_or (set c.loop-i.slots c.loop-i.i c.change.new.slot) c.loop-i.i w.index-slots-i-in-Long.result) w.change_long.new.slot)) w.in-Ok.is
          w.in_ok-change_long-in-Long.ensures.done)
          (subst (λ (k : SumCache). Forgets c.loop-i.i c.loop-i.kept.sums.items k.sums.items) (sym w.kept-is) w.forget.ensures)
    ]
