use Rattle.std.proofs.Common.{◌≡◌, ◌++◌, take, codes}
use Rattle.std.specs.List.{join_with_byte}
use Rattle.bt_entities.specs.Written.{entity_texts}
use Rattle.bt_entities.proofs.writing.text_of.Given as goal

-- the front and the entities so far
abbrev pub invariant-loop-i : goal.invariant-loop-i
invariant-loop-i l = l.text.items ≡ codes "{\"blueprint\":{\"item\":\"blueprint\",\"entities\":[" ++ join_with_byte 44 (take l.i (entity_texts l.version l.parts l.priorities))
