use Rattle.bt_pivot.specs.Tableaus.{with_slots}
use Rattle.bt_simplex.proofs.Epsilons.{IsLeastRoom}
use Rattle.bt_simplex.proofs.settling.epsilon.Given as goal

abbrev pub invariant-loop-position : goal.invariant-loop-position
invariant-loop-position l = IsLeastRoom (with_slots l.tableau l.basis) l.position l.epsilon
