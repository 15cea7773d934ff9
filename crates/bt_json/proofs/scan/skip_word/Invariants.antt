use Rattle.std.proofs.Common.{◌≡◌, ◌≤◌, length, List, drop}
use Rattle.bt_json.specs.Json.{Json}
use Rattle.bt_json.specs.inner.Reading.{Frame, in_word, word_left}
use Rattle.bt_json.specs.inner.Running.{rest_of, rest_after}
use Rattle.bt_json.proofs.scan.skip_word.Given as goal

abbrev pub invariant-loop-letter : goal.invariant-loop-letter
invariant-loop-letter l = record {
  from : l.start ≤ l.at;
  within : l.at ≤ length l.bytes;
  spelled : (v : Json) (k : List Frame) → rest_of l.bytes l.start (in_word l.letters v k) ≡ rest_after l.bytes l.at (word_left (drop l.letter-index l.letters) v k l.at);
}
