use Rattle.std.proofs.Common.{◌≡◌, ◌≤◌, ◌-◌, length, IsUtf8}
use Rattle.std.specs.Prelude.{slice_range}
use Rattle.bt_json.specs.inner.Reading.{between}
use Rattle.bt_json.specs.inner.Running.{rest_of, Around, within, after_plain}
use Rattle.bt_json.proofs.text.plain_end.Given as goal

abbrev pub invariant-loop-at : goal.invariant-loop-at
invariant-loop-at l = record {
  from : l.start ≤ l.at;
  inside : l.at ≤ length l.bytes;
  utf8 : IsUtf8 (slice_range l.bytes l.start l.at);
  read : (t : Around) → rest_of l.bytes l.start (within t between) ≡ rest_of l.bytes l.at (within (after_plain t (slice_range l.bytes l.start l.at)) between);
}

abbrev pub decreases-loop-at : goal.decreases-loop-at
decreases-loop-at l = length l.bytes - l.at
