use Rattle.bt_place.proofs.Longer.{narrowed_none, narrowed_more}
use Rattle.bt_place.proofs.narrowing.narrow.Goals as goal

pub loop-place-init : goal.loop-place-init
loop-place-init c = narrowed_none c.args.formula.now

pub loop-place-preserved : goal.loop-place-preserved
loop-place-preserved c = narrowed_more c.args.formula.now c.loop-place.formula c.narrow_at.new.formula c.loop-place.invariant c.in_ok-narrow_at.ensures
