use Rattle.bt_json.specs.Stands.{json_of, number_of}
use Rattle.bt_entities.proofs.Unique.{no_whole_direction, direction_found}
use Rattle.bt_entities.proofs.piece.direction.Goals as goal

pub returns-in_default-whole : goal.returns-in_default-whole
returns-in_default-whole c = no_whole_direction c.args.major (json_of c.args.entity.now) (json_of c.in-Some.direction.now) (number_of c.in_ok-number.number.now) c.in-Some.ensures c.in_ok-number.ensures c.in_default-whole.ensures.none

pub returns : goal.returns
returns c = direction_found c.args.major (json_of c.args.entity.now) (json_of c.in-Some.direction.now) (number_of c.in_ok-number.number.now) _ c.direction_of.result c.in-Some.ensures c.in_ok-number.ensures c.in-Some-whole.ensures.found c.direction_of.ensures
