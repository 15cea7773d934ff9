use Rattle.bt_place.proofs.Gathering.{IsGathered}
use Rattle.bt_place.proofs.decoding.parts_on.Given as goal

abbrev pub invariant-loop-i : goal.invariant-loop-i
invariant-loop-i l = IsGathered l.reading l.i l.parts.items
