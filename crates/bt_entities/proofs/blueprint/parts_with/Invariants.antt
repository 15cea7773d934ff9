use Rattle.std.proofs.Common.{map}
use Rattle.bt_json.specs.Stands.{json_of}
use Rattle.bt_entities.specs.inner.Pieces.{special_of}
use Rattle.bt_entities.proofs.Whole.{HasRead}
use Rattle.bt_entities.proofs.blueprint.parts_with.Given as goal

abbrev pub invariant-loop-place : goal.invariant-loop-place
invariant-loop-place l = HasRead (special_of l.reading) l.major (map json_of l.entities) l.place l.set l.parts.items l.priorities.items
