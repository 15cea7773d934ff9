use Rattle.std.proofs.Common.{rules, ap, ◌∙◌}
use Rattle.bt_json.specs.Stands.{json_of}
use Rattle.bt_json.proofs.Trees.{json-Object}
use Rattle.bt_entities.proofs.member.is_object.Goals as goal

pub returns-in-Object : goal.returns-in-Object
returns-in-Object c = ((λ _. (_, ap json_of c.in-Object.is ∙ json-Object c.in-Object.names c.in-Object.values)), (λ _. search rules))
