use Rattle.std.proofs.Common.{◌≡◌, ◌≤◌, ◌-◌, length, List, [], None}
use Rattle.bt_json.specs.inner.Reading.{Role, Frame, in_text, between}
use Rattle.bt_json.specs.inner.Running.{rest_of}
use Rattle.bt_json.specs.inner.Unescaping.{state_of}
use Rattle.bt_json.proofs.text.Unescaped.read.Given as goal

abbrev pub invariant-loop-text : goal.invariant-loop-text
invariant-loop-text l = record {
  from : l.start ≤ l.at;
  inside : l.at ≤ length l.bytes;
  read : (role : Role) (k : List Frame) → rest_of l.bytes l.start (in_text [] None between role k) ≡ rest_of l.bytes l.at (state_of l.text between role k);
}

abbrev pub decreases-loop-text : goal.decreases-loop-text
decreases-loop-text l = length l.bytes - l.at
