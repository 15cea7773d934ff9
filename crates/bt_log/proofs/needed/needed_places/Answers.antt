use Rattle.std.proofs.Common.{ℕ, subst}
use Rattle.std.specs.Prelude.{Vec}
use Rattle.std.specs.declared.alloc.Global.{Global}
use Rattle.std.proofs.lemmas.Result.{IfOk-weaker}
use Rattle.bt_log.specs.inner.Needed.{AreNeeded, AreThose}
use Rattle.bt_log.proofs.Choosing.{are_needed}
use Rattle.bt_log.proofs.needed.needed_places.Goals as goal

pub returns : goal.returns
returns c =
    IfOk-weaker c.marked_places.result (λ (places : Vec ℕ Global). AreThose c.deref.result.now places.items) (λ places. AreNeeded c.args.log.now places.items)
    (λ places those. are_needed c.args.log.now c.in_ok-marks.marks.items places.items c.in_ok-marks.ensures (subst (λ marks. AreThose marks places.items) c.deref.ensures.value those))
    c.marked_places.ensures
