use Rattle.std.proofs.Common.{rules, ap, sym, ◌∙◌, map, ◌≡◌, None}
use Rattle.std.specs.Prelude.{option_map, option_and_then}
use Rattle.std.specs.List.{slice_get}
use Rattle.std.proofs.lemmas.Option.{slice_get-map}
use Rattle.bt_json.specs.Stands.{json_of}
use Rattle.bt_json.proofs.Trees.{value_at-members_of}
use Rattle.bt_json.proofs.tree.value_at_name.Goals as goal

pub returns : goal.returns
returns c =
    let vs = c.args.values.now in
    let e = value_at-members_of c.args.names.now.keys (map json_of vs) c.args.name.now in
    let at = sym c.get_index_of.ensures.index ∙ c.in-Some.is in
    ap (option_map json_of) c.nth.ensures ∙ sym (slice_get-map json_of vs c.in-Some.place) ∙ sym (e ∙ ap (option_and_then (slice_get (map json_of vs))) at)

pub returns-in_default : goal.returns-in_default
returns-in_default c =
    let e = value_at-members_of c.args.names.now.keys (map json_of c.args.values.now) c.args.name.now in
    let none : c.get_index_of.result ≡ None = search rules in
    sym (e ∙ ap (option_and_then (slice_get (map json_of c.args.values.now))) (sym c.get_index_of.ensures.index ∙ none))
