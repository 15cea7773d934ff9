use Rattle.std.proofs.Common.{ap, ap₂, sym, ◌∙◌, map}
use Rattle.bt_json.specs.inner.Names.{keys_of}
use Rattle.bt_json.specs.Json.{member_of, value_at}
use Rattle.bt_json.specs.Stands.{json_of, members_of}
use Rattle.bt_json.proofs.Trees.{json-Object}
use Rattle.bt_json.proofs.tree.Tree.member.Goals as goal

pub returns-in-Object : goal.returns-in-Object
returns-in-Object c =
    let names = c.in-Object.names in
    let vs = c.in-Object.values in
    c.value_at_name.ensures
    ∙ ap₂ (λ set ts. value_at (members_of (keys_of set) (map json_of ts)) c.args.name.now) c.deref.ensures c.deref-in-Object.ensures.value
    ∙ sym (ap (λ j. member_of j c.args.name.now) (ap json_of c.in-Object.is ∙ json-Object names vs))
