use Rattle.bt_cnf.proofs.Lacking.{unset_next}
use Rattle.bt_cnf.proofs.unset.list_unset.Goals as goal

pub loop-place-preserved : goal.loop-place-preserved
loop-place-preserved c = unset_next c.args.values.now c.loop-place.place c.loop-place.unset.items c.add_unset.new.unset.items c.loop-place.invariant c.in_ok-add_unset.ensures
