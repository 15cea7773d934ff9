use Rattle.std.proofs.Common.{◌≡◌, ◌≤◌, ◌<◌, ◌+◌, ◌-◌, ◌^◌, length}
use Rattle.bt_json.specs.inner.Reading.{hex, step_hex}
use Rattle.bt_json.specs.inner.Running.{rest_of, rest_after, Around, within, step_within}
use Rattle.bt_json.proofs.text.read_hex.Given as goal

abbrev pub invariant-loop-index : goal.invariant-loop-index
invariant-loop-index l = record {
  inside : l.start + l.index ≤ length l.bytes;
  small : l.unit < 16 ^ l.index;
  spelled : (t : Around) → rest_of l.bytes l.start (within t (hex 3 0)) ≡ rest_after l.bytes (l.start + l.index) (step_within 0 t (step_hex t.out t.high (4 - l.index) l.unit));
}
