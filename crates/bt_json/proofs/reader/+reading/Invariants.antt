use Rattle.std.proofs.Common.{◌≡◌, ◌≤◌, ◌+◌, ◌-◌, ◌*◌, length}
use Rattle.bt_json.specs.inner.Running.{rest_of, rest_after}
use Rattle.bt_json.specs.inner.Frames.{opened}
use Rattle.bt_json.specs.inner.Ahead.{place_of, step_ahead}
use Rattle.bt_json.specs.inner.Nested.{frame_of, IsFilled, Outside}
use Rattle.bt_json.specs.declared.limits.TheConstants.{MOST_LEVELS}
use Rattle.bt_json.proofs.reader.+reading.Given as goal

-- a level more is nearer to the last one, and a value is within its list or object
abbrev pub decreases-read_value : goal.decreases-read_value
decreases-read_value l = 3 * (MOST_LEVELS - l.depth) + 2

abbrev pub decreases-read_nested : goal.decreases-read_nested
decreases-read_nested l = 3 * (MOST_LEVELS - l.depth) + 1

abbrev pub decreases-fill : goal.decreases-fill
decreases-fill l = 3 * (MOST_LEVELS - l.depth)

abbrev pub invariant-fill-loop-ahead : goal.invariant-fill-loop-ahead
invariant-fill-loop-ahead l = record {
  from : l.start ≤ place_of l.ahead;
  inside : place_of l.ahead ≤ length l.bytes;
  filled : IsFilled l.nested;
  read : (around : Outside l.depth) → rest_of l.bytes l.start (opened (frame_of l.fn.nested) around.frames) ≡ rest_after l.bytes (place_of l.ahead) (step_ahead l.ahead (frame_of l.nested) around.frames);
}

abbrev pub decreases-fill-loop-ahead : goal.decreases-fill-loop-ahead
decreases-fill-loop-ahead l = length l.bytes - place_of l.ahead
