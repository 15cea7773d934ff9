-- The tree of a list or an object that is closed.
use Rattle.std.proofs.Common.{◌≡◌, ◌+◌, true, Some, None, Vec, map, length, ap, ◌∙◌, sym, subst, rules, eq-eqb, add-zero}
use Rattle.std.proofs.lemmas.Bool.{and_from}
use Rattle.std.proofs.lemmas.List.{length-map}
use Rattle.std.specs.Prelude.{◌&&◌, ◌==◌, string_bytes}
use Rattle.std.specs.List.{list_all}
use Rattle.std.specs.Bool.{IsTrue}
use Rattle.std.specs.Global.{Global}
use Rattle.std.specs.declared.rc.Rc.{Rc}
use Rattle.bt_json.specs.Json.{list, object}
use Rattle.bt_json.specs.Stands.{json_of, items_of, members_of, is_full}
use Rattle.bt_json.specs.inner.Names.{Set, keys_of, names_of}
use Rattle.bt_json.specs.inner.Frames.{closed}
use Rattle.bt_json.specs.inner.Nested.{frame_of, frame_with, HasNames, IsFilled}
use Rattle.bt_json.specs.declared.tree.Tree.{Tree, the_lemmas}
use Rattle.bt_json.specs.declared.tree.Tree.TheViews as views
use Rattle.bt_json.specs.declared.names.NamesSoFar.{NamesSoFar}
use Rattle.bt_json.specs.declared.nested.Nested.{Nested}
use Rattle.bt_json.proofs.Trees.{json-List, json-Object}

full-List : (v : Vec Tree Global) → is_full (views.List v) ≡ list_all (λ full. full) (map is_full v.items)
full-List v = search (rules, the_lemmas)

full-Object : (names : Rc Set Global) (v : Vec Tree Global) → is_full (views.Object names v) ≡ ((length names.value.keys == length (map is_full v.items)) && list_all (λ full. full) (map is_full v.items))
full-Object names v = search (rules, the_lemmas)

pub closed_list : (n : Nested) (v : Vec Tree Global) → n.names ≡ None → v.items ≡ n.values.items → json_of (views.List v) ≡ closed (frame_of n)
closed_list n v none same =
    json-List v ∙ ap (λ ts. list (items_of (map json_of ts))) same ∙ ap (λ names. closed (frame_with names (map json_of n.values.items))) (sym none)

pub closed_object : (n : Nested) (names : NamesSoFar) (set : Rc Set Global) (v : Vec Tree Global) → n.names ≡ Some names → keys_of set.value ≡ names_of names → v.items ≡ n.values.items
    → json_of (views.Object set v) ≡ closed (frame_of n)
closed_object n names set v some keys same =
    json-Object set v ∙ ap (λ ts. object (members_of (keys_of set.value) (map json_of ts))) same ∙ ap (λ ks. object (members_of ks (map json_of n.values.items))) keys
    ∙ ap (λ names. closed (frame_with names (map json_of n.values.items))) (sym some)

pub full_list : (n : Nested) (v : Vec Tree Global) → v.items ≡ n.values.items → IsFilled n → IsTrue (is_full (views.List v))
full_list n v same filled = full-List v ∙ ap (λ ts. list_all (λ full. full) (map is_full ts)) same ∙ filled.0

pub full_object : (n : Nested) (names : NamesSoFar) (set : Rc Set Global) (v : Vec Tree Global) → n.names ≡ Some names → keys_of set.value ≡ names_of names → v.items ≡ n.values.items
    → IsFilled n → IsTrue (is_full (views.Object set v))
full_object n names set v some keys same filled =
    let count : length (names_of names) ≡ length (map json_of n.values.items) + 0 = subst (λ o. HasNames 0 (frame_with o (map json_of n.values.items))) some filled.1 in
    let all : list_all (λ full. full) (map is_full v.items) ≡ true = ap (λ ts. list_all (λ full. full) (map is_full ts)) same ∙ filled.0 in
    let same_count : length set.value.keys ≡ length (map is_full v.items) =
    sym (length-map set.value.keys string_bytes) ∙ ap length keys ∙ count ∙ add-zero _ ∙ length-map n.values.items json_of ∙ sym (ap length same) ∙ sym (length-map v.items is_full)
    in
    full-Object set v ∙ and_from (length set.value.keys == length (map is_full v.items)) _ (eq-eqb _ _ same_count) all
