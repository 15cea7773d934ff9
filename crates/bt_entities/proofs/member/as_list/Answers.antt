use Rattle.std.proofs.Common.{ap, ◌∙◌, sym, map}
use Rattle.bt_json.specs.Json.{list}
use Rattle.bt_json.specs.Stands.{json_of, items_of}
use Rattle.bt_json.proofs.Trees.{json-List}
use Rattle.bt_entities.proofs.member.as_list.Goals as goal

pub returns-in-List : goal.returns-in-List
returns-in-List c = ap json_of c.in-List.is ∙ json-List c.in-List.values ∙ ap (λ ts. list (items_of (map json_of ts))) (sym c.as_slice.ensures.value)
