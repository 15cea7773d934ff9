use Rattle.std.proofs.Common.{ℕ, ◌+◌, arith, take, sym, subst, ap, ◌∙◌}
use Rattle.std.specs.Prelude.{Vec}
use Rattle.std.specs.declared.alloc.Global.{Global}
use Rattle.bt_log.specs.inner.Needed.{AreThose}
use Rattle.bt_log.proofs.Choosing.{those_added, those_passed}
use Rattle.bt_log.proofs.needed.marked_places.Goals as goal
use Rattle.bt_log.proofs.needed.marked_places.Goals.{then-marks-place+in_ok-push, else-marks-place}

pub loop-place-preserved : goal.loop-place-preserved
loop-place-preserved c =
    let marks = c.args.marks.now in
    let place = c.loop-place.place in
    elim c.if-marks-place.branch [
      | then-marks-place+in_ok-push w ↦
          subst (AreThose (take (place + 1) marks)) (sym (ap (λ (v : Vec ℕ Global). v.items) w.places-is ∙ w.in_ok-push.ensures.items))
          (those_added marks place c.loop-place.places.items (omega arith) w.if-marks-place.true c.loop-place.invariant)
      | else-marks-place w ↦
          subst (AreThose (take (place + 1) marks)) (sym (ap (λ (v : Vec ℕ Global). v.items) w.places-is))
          (those_passed marks place c.loop-place.places.items (omega arith) w.if-marks-place.false c.loop-place.invariant)
    ]
