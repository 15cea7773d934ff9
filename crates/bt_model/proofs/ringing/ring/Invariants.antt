use Rattle.bt_model.proofs.PathLemmas.{IsAhead}
use Rattle.bt_model.proofs.ringing.ring.Given as goal

abbrev pub invariant-loop-steps : goal.invariant-loop-steps
invariant-loop-steps l = IsAhead l.parts l.i l.last l._steps
