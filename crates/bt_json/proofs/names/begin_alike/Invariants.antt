use Rattle.std.proofs.Common.{◌≡◌, take}
use Rattle.std.specs.Prelude.{map, string_bytes}
use Rattle.bt_json.proofs.names.begin_alike.Given as goal

-- so far they are the same
abbrev pub invariant-loop-place : goal.invariant-loop-place
invariant-loop-place l = take l.place (map string_bytes l.one-2.keys) ≡ take l.place (map string_bytes l.other-2.keys)
