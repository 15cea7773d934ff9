-- What the order of variables still has, once what is true was propagated.
use Rattle.std.proofs.Common.{◌≡◌, arith, ◌++◌, length, sym, subst, None}
use Rattle.std.specs.Prelude.{Contains}
use Rattle.bt_watch.specs.Keeping.{AreTrue}
use Rattle.bt_watch.specs.Levels.{IsReady, Stands}
use Rattle.bt_sat.specs.declared.progress.Progress.{Progress}
use Rattle.bt_sat.specs.inner.Choices.{ListsUnset}
use Rattle.bt_sat.specs.inner.LoggedFormula.{clauses_in}
use Rattle.bt_sat.specs.inner.Progressing.{Grows, IsRunning}
use Rattle.bt_watch.proofs.Unset.{unset_before}

truths_of : (p : Progress) → IsRunning p → p.conflict ≡ None → AreTrue p.search.assignment.values p.search.assignment.trail.items
truths_of p running none =
    let ready : IsReady (clauses_in p.known) p.propagated p.search = subst (Stands (clauses_in p.known) p.propagated p.search) none running.stands in
    ready.ordered.whole.truths

-- the order has all that have no value still once literals were added to the trail
pub grows_lists : (old new : Progress) → IsRunning old → IsRunning new → old.conflict ≡ None → new.conflict ≡ None
    → length new.search.assignment.values ≡ length old.search.assignment.values → Grows old new → ListsUnset old → ListsUnset new
grows_lists old new running goes none none_yet size grows listed = λ v lacks.
    let after : AreTrue new.search.assignment.values (old.search.assignment.trail.items ++ grows.more) = subst (AreTrue new.search.assignment.values) grows.trail (truths_of new goes none_yet) in
    let was = unset_before old.search.assignment.values new.search.assignment.values old.search.assignment.trail.items grows.more (truths_of old running none) after v lacks.1 in
    subst (λ vars. Contains vars v) (sym grows.order) (listed v (omega (arith, lacks.0, size), was))
