use Rattle.bt_json.specs.Stands.{json_of, number_of}
use Rattle.bt_entities.proofs.Unique.{no_whole}
use Rattle.bt_entities.proofs.blueprint.major_of.Goals as goal

pub returns-in_default-whole : goal.returns-in_default-whole
returns-in_default-whole c = (
  json_of c.in-Some.version.now,
  c.in-Some.ensures,
  λ v. no_whole (json_of c.in-Some.version.now) (number_of c.in-Some-as_number.number.now) v.1.0 c.in-Some-as_number.ensures c.in_default-whole.ensures.none v.1.1 v.1.2,
)
