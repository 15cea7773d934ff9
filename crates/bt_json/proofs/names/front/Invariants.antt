use Rattle.std.proofs.Common.{◌≡◌}
use Rattle.bt_json.specs.inner.Names.{keys_of, front_of}
use Rattle.bt_json.proofs.names.front.Given as goal

abbrev pub invariant-loop-place : goal.invariant-loop-place
invariant-loop-place l = keys_of l.front ≡ front_of l.set l.place
