use Rattle.std.proofs.Common.{◌≡◌, ◌+◌, ◌-◌, ℕ, false, get_or, vec_len}
use Rattle.bt_watch.specs.Agendas.{AreBefore}
use Rattle.bt_watch.proofs.agenda.mark.Given as goal

abbrev pub invariant-loop-marks : goal.invariant-loop-marks
invariant-loop-marks l = record {
  same : (k : ℕ) → get_or l.marks.items k false ≡ get_or l.fn.marks.items k false;
  before : AreBefore l.marks.items l.end;
}

abbrev pub decreases-loop-marks : goal.decreases-loop-marks
decreases-loop-marks l = l.place + 1 - vec_len l.marks
