-- How a list and an object go on alike.
use Rattle.std.specs.Prelude.{ℕ, List, [], ◌∷◌, ◌++◌, Option, Some, None}
use Rattle.bt_json.specs.Json.{Json, list, object}
use Rattle.bt_json.specs.Stands.{items_of, members_of}
use Rattle.bt_json.specs.Places.{Frame, in_list, in_object}
use Rattle.bt_json.specs.inner.Reading.{State, due, opened_list, opened_object, name_due}
use Rattle.bt_json.specs.declared.kind.Kind.{Kind}
use Rattle.bt_json.specs.declared.kind.Kind.TheVariants.{ListOpens, ObjectOpens}

-- the list or the object that a byte of that kind opens
abbrev pub frame_begun : Kind → Option Frame
frame_begun ListOpens = Some (in_list [])
frame_begun ObjectOpens = Some (in_object [] [])
frame_begun _ = None

-- it has no item and no name yet
abbrev pub IsFresh : Frame → Type 0
IsFresh (in_list []) = Unit {0}
IsFresh (in_list (v ∷ vs)) = ⊥
IsFresh (in_object [] []) = Unit {0}
IsFresh (in_object [] (v ∷ vs)) = ⊥
IsFresh (in_object (n ∷ names) vs) = ⊥

-- the byte that closes it
abbrev pub closing_of : Frame → ℕ
closing_of (in_list vs) = 93
closing_of (in_object names vs) = 125

-- the state behind the byte that opens it
abbrev pub opened : Frame → List Frame → State
opened (in_list vs) k = opened_list k
opened (in_object names vs) k = opened_object k

-- the state where an item or a name is due in it, behind a comma
abbrev pub item_due : Frame → List Frame → State
item_due (in_list vs) k = due (in_list vs ∷ k)
item_due (in_object names vs) k = name_due names vs k

-- it has one value more
abbrev pub with_value : Frame → Json → Frame
with_value (in_list vs) v = in_list (vs ++ v ∷ [])
with_value (in_object names vs) v = in_object names (vs ++ v ∷ [])

-- the value that it is, once it is closed
abbrev pub closed : Frame → Json
closed (in_list vs) = list (items_of vs)
closed (in_object names vs) = object (members_of names vs)
