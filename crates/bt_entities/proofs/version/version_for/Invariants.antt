use Rattle.std.proofs.Common.{◌≡◌, false, take}
use Rattle.std.specs.List.{list_any}
use Rattle.bt_entities.specs.Written.{is_turbo}
use Rattle.bt_entities.proofs.version.version_for.Given as goal

-- none of the parts so far is of the turbo tier
abbrev pub invariant-loop-part : goal.invariant-loop-part
invariant-loop-part l = list_any is_turbo (take l.part-index l.parts) ≡ false
