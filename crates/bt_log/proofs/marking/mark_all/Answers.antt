use Rattle.std.proofs.Common.{◌≡◌, ◌+◌, ◌-◌, arith, subst}
use Rattle.bt_log.specs.inner.Marking.{AreMarked}
use Rattle.bt_log.proofs.Marked.{marked_on}
use Rattle.bt_log.proofs.marking.mark_all.Goals as goal

pub loop-place-preserved : goal.loop-place-preserved
loop-place-preserved c =
    let log = c.args.log.now in
    let place = c.loop-place.place in
    let before : place ≡ place - 1 + 1 = omega arith in record {
      within = omega arith;
      are = marked_on log (place - 1) c.loop-place.marks c.mark_of.new.marks (omega arith) (subst (λ n. AreMarked log n c.loop-place.marks) before c.loop-place.invariant.are)
          c.mark_of.ensures;
    }
