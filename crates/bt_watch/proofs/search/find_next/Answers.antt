use Rattle.std.proofs.Common.{◌<◌, arith, length, refl, subst}
use Rattle.std.specs.Prelude.{Contains}
use Rattle.std.proofs.lemmas.List.{get_or_default}
use Rattle.bt_cnf.specs.Truths.{IsTrueIn}
use Rattle.bt_watch.specs.declared.clause_pool.Watch.{Watch}
use Rattle.bt_watch.specs.Propagating.{root_of}
use Rattle.bt_watch.proofs.search.find_next.Goals as goal

pub returns-then-is_rooted : goal.returns-then-is_rooted
returns-then-is_rooted c =
    let list = c.args.list.now in
    let place = c.loop-place.place in
    let within : place < length list = omega arith in (
      record { order = c.loop-place.invariant.order; within = within; trues = c.loop-place.invariant.trues },
      (λ d. subst (λ (w : Watch). IsTrueIn c.args.search.now.assignment.values w.blocker × Contains (root_of c.args.search.now) w.blocker)
          (get_or_default list place c.index-list-place.result d within) (c.if-not-is_true.ensures.0 refl, c.is_rooted.ensures c.if-is_rooted.true)),
    )
