use Rattle.std.proofs.Common.{true, ◌≡◌, ◌≤◌, ◌-◌, length}
use Rattle.bt_json.specs.inner.Reading.{State}
use Rattle.bt_json.specs.inner.Running.{SkipsBlanks, rest_of}
use Rattle.bt_json.proofs.scan.skip_blanks.Given as goal

abbrev pub invariant-loop-at : goal.invariant-loop-at
invariant-loop-at l = record {
  from : l.start ≤ l.at;
  within : l.at ≤ length l.bytes;
  skipped : (s : State) → SkipsBlanks true s → rest_of l.bytes l.start s ≡ rest_of l.bytes l.at s;
}

abbrev pub decreases-loop-at : goal.decreases-loop-at
decreases-loop-at l = length l.bytes - l.at
