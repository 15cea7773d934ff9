-- Which JSON value a tree stands for.
use Rattle.std.specs.Prelude.{ℕ, Bool, true, ◌&&◌, ◌==◌, List, [], ◌∷◌, map, length, string_bytes}
use Rattle.std.specs.List.{list_all}
use Rattle.bt_json.specs.declared.decimal.Decimal.{Decimal}
use Rattle.bt_json.specs.declared.tree.Tree.{Tree, fold-Tree}
use Rattle.bt_json.specs.declared.tree.Tree.TheOpen.{Tree-F}
use Rattle.bt_json.specs.Json.{Number, Json, null, boolean, number, text, list, object, Items, no_items, item, Members, no_members, member}

-- the number that a decimal stands for
abbrev pub number_of : Decimal → Number
number_of d = record { negative = d.negative; digits = d.digits.items; exponent = d.exponent }

-- the items of a list, in their order
abbrev pub items_of : List Json → Items
items_of [] = no_items
items_of (v ∷ vs) = item v (items_of vs)

-- each name with the value at its place, as far as there are both
abbrev pub members_of : List (List ℕ) → List Json → Members
members_of [] values = no_members
members_of (name ∷ names) [] = no_members
members_of (name ∷ names) (value ∷ values) = member name value (members_of names values)

-- by cases on the tree, whose inner trees are seen as their values
abbrev pub json_step : Tree-F Json → Json
json_step Tree-F.Null = null
json_step (Tree-F.Bool b) = boolean b
json_step (Tree-F.Num d) = number (number_of d)
json_step (Tree-F.Text t) = text (string_bytes t)
json_step (Tree-F.List v) = list (items_of v.items)
json_step (Tree-F.Object names v) = object (members_of (map string_bytes names.value.keys) v.items)

-- the value that a tree stands for
abbrev pub json_of : Tree → Json
json_of = fold-Tree Json json_step

-- the value that a tree stands for, and the place after it
abbrev pub value_and_place : Tree × ℕ → Json × ℕ
value_and_place read = (json_of read.0, read.1)

-- by cases on the tree, whose inner trees are seen by whether they are full
abbrev pub full_step : Tree-F Bool → Bool
full_step Tree-F.Null = true
full_step (Tree-F.Bool b) = true
full_step (Tree-F.Num d) = true
full_step (Tree-F.Text t) = true
full_step (Tree-F.List v) = list_all (λ full. full) v.items
full_step (Tree-F.Object names v) = (length names.value.keys == length v.items) && list_all (λ full. full) v.items

-- each object of the tree has as many values as names
abbrev pub is_full : Tree → Bool
is_full = fold-Tree Bool full_step
