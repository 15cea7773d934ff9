use Rattle.std.proofs.Common.{length, ◌-◌, ◌≡◌, ◌≤◌, List}
use Rattle.bt_json.specs.inner.Numerals.{view}
use Rattle.bt_json.specs.inner.Reading.{Frame, in_number}
use Rattle.bt_json.specs.inner.Running.{rest_of}
use Rattle.bt_json.proofs.number.Numeral.take_rest.Given as goal

abbrev pub invariant-loop-at : goal.invariant-loop-at
invariant-loop-at l = record {
  from : l.start ≤ l.at;
  within : l.at ≤ length l.bytes;
  written : (k : List Frame) → rest_of l.bytes l.start (in_number l.fn.phase (view l.fn.self) k) ≡ rest_of l.bytes l.at (in_number l.phase (view l.self) k);
}

abbrev pub decreases-loop-at : goal.decreases-loop-at
decreases-loop-at l = length l.bytes - l.at
