use Rattle.bt_recover.proofs.EdgeLemmas.{IsFollowing}
use Rattle.bt_recover.proofs.edges.way_from.Given as goal

abbrev pub invariant-loop-steps : goal.invariant-loop-steps
invariant-loop-steps l = IsFollowing l.grid l.first l.last l._steps l.speed
