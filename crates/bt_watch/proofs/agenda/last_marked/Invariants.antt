use Rattle.bt_watch.specs.Agendas.{AreBefore}
use Rattle.bt_watch.proofs.agenda.last_marked.Given as goal

abbrev pub invariant-loop-place : goal.invariant-loop-place
invariant-loop-place l = AreBefore l.marks l.place

abbrev pub decreases-loop-place : goal.decreases-loop-place
decreases-loop-place l = l.place
