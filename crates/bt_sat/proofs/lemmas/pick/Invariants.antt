use Rattle.std.specs.Prelude.{length}
use Rattle.bt_sat.specs.inner.Lemmas.{IsListing}
use Rattle.bt_sat.proofs.lemmas.pick.Given as goal

abbrev pub invariant-loop-place : goal.invariant-loop-place
invariant-loop-place l =
    IsListing l.search.assignment.places.items l.lits (length l.search.assignment.trail.items) l.analysis.agenda l.analysis.picked.items l.bound

abbrev pub decreases-loop-place : goal.decreases-loop-place
decreases-loop-place l = l.bound
