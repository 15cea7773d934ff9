-- The list or the object that the reader holds, as a frame, and what its parts tell of it.
use Rattle.std.specs.Prelude.{◌≡◌, ◌≢◌, ℕ, ◌+◌, ◌<◌, ◌≤◌, true, List, ◌∷◌, map, length, Option, Some, None, Result, Ok, Err, slice_index, ◌⊎◌}
use Rattle.std.specs.List.{list_all}
use Rattle.bt_json.specs.Json.{Json}
use Rattle.bt_json.specs.Stands.{json_of, is_full}
use Rattle.bt_json.specs.Places.{Frame, in_list, in_object}
use Rattle.bt_json.specs.inner.Bytes.{kind_of}
use Rattle.bt_json.specs.inner.Reading.{State, Step, go, due, behind, deliver}
use Rattle.bt_json.specs.inner.Running.{ReadsOn}
use Rattle.bt_json.specs.inner.Frames.{frame_begun, IsFresh, opened, item_due, closed}
use Rattle.bt_json.specs.inner.Ahead.{place_of, step_ahead}
use Rattle.bt_json.specs.inner.Names.{names_of}
use Rattle.bt_json.specs.declared.tree.Tree.{Tree}
use Rattle.bt_json.specs.declared.kind.Kind.{Kind}
use Rattle.bt_json.specs.declared.kind.Kind.TheVariants.{Blank}
use Rattle.bt_json.specs.declared.limits.TheConstants.{MOST_LEVELS}
use Rattle.bt_json.specs.declared.fault.JsonFault.{JsonFault}
use Rattle.bt_json.specs.declared.fault.JsonFault.TheVariants as faults
use Rattle.bt_json.specs.declared.names.NamesSoFar.{NamesSoFar}
use Rattle.bt_json.specs.declared.nested.Nested.{Nested}
use Rattle.bt_json.specs.declared.nested.Ahead.{Ahead}

-- a frame of these names, if it is an object, and these values
abbrev pub frame_with : Option NamesSoFar → List Json → Frame
frame_with None vs = in_list vs
frame_with (Some names) vs = in_object (names_of names) vs

-- the frame that it is
abbrev pub frame_of : Nested → Frame
frame_of nested = frame_with nested.names (map json_of nested.values.items)

-- an object has so many names more than values
abbrev pub HasNames : ℕ → Frame → Type 0
HasNames more (in_list vs) = Unit {0}
HasNames more (in_object names vs) = length names ≡ length vs + more

-- its values are full
abbrev pub ValuesAreFull : Nested → Type 0
ValuesAreFull nested = list_all (λ full. full) (map is_full nested.values.items) ≡ true

-- its values are full, and an object has as many names
abbrev pub IsFilled : Nested → Type 0
IsFilled nested = ValuesAreFull nested × HasNames 0 (frame_of nested)

-- its values are full, and an object has one name more
abbrev pub IsNamed : Nested → Type 0
IsNamed nested = ValuesAreFull nested × HasNames 1 (frame_of nested)

-- the list or the object that a byte of that kind at a place opens within so many others, or none; or there are as many
-- as may be
abbrev pub Begins : Kind → ℕ → ℕ → Result (Option Nested) JsonFault → Type 0
Begins kind at depth (Ok None) = frame_begun kind ≡ None
Begins kind at depth (Ok (Some nested)) = (frame_begun kind ≡ Some (frame_of nested)) × IsFresh (frame_of nested) × IsFilled nested × (depth < MOST_LEVELS)
Begins kind at depth (Err fault) = (fault ≡ faults.Memory) ⊎ ((fault ≡ faults.Deep at) × (frame_begun kind ≢ None) × (MOST_LEVELS ≤ depth))

-- behind a name and the colon, where a value is due; in a list there is neither
abbrev pub ReadsName : List ℕ → ℕ → Frame → Frame → Result ℕ JsonFault → Type 0
ReadsName bytes start old new = ReadsOn bytes start (item_due old) (λ at. at) (λ at k. go (due (new ∷ k)))

-- what comes behind a value, which is put into the frame
abbrev pub Pushes : List ℕ → ℕ → Json → Frame → Frame → Result Ahead JsonFault → Type 0
Pushes bytes start v old new = ReadsOn bytes start (behind v old) place_of (λ ahead k. step_ahead ahead new k)

-- the open lists and objects outside a place, that many
pub record Outside (depth : ℕ) : Type 0 where
  pub frames : List Frame
  pub count : length frames ≡ depth

-- the step behind a value that was read
abbrev pub delivered : {depth : ℕ} → Tree × ℕ → Outside depth → Step
delivered read around = deliver (json_of read.0) around.frames read.1

-- a value that is due within that many lists and objects
abbrev pub ReadsValue : List ℕ → ℕ → ℕ → Result (Tree × ℕ) JsonFault → Type 0
ReadsValue bytes start depth = ReadsOn {K = Outside depth} bytes start (λ around. due around.frames) (λ read. read.1) delivered

-- the rest of a list or an object behind its opening bracket, within that many others
abbrev pub ReadsNested : List ℕ → ℕ → ℕ → Frame → Result (Tree × ℕ) JsonFault → Type 0
ReadsNested bytes start depth frame = ReadsOn {K = Outside depth} bytes start (λ around. opened frame around.frames) (λ read. read.1) delivered

-- the same, where it is filled meanwhile
abbrev pub Fills : List ℕ → ℕ → ℕ → Frame → Frame → Result ℕ JsonFault → Type 0
Fills bytes start depth old new = ReadsOn {K = Outside depth} bytes start (λ around. opened old around.frames) (λ at. at) (λ at around. deliver (closed new) around.frames at)

-- a value that reading in such a state comes to, whatever lists and objects are open around it
abbrev pub ReadsTree : List ℕ → ℕ → (List Frame → State) → Result (Tree × ℕ) JsonFault → Type 0
ReadsTree bytes start from = ReadsOn bytes start from (λ read. read.1) (λ read k. deliver (json_of read.0) k read.1)

-- the first byte that isn't blank, and what it may be
pub record IsToken (bytes : List ℕ) (at : ℕ) (kind : Kind) : Type 0 where
  pub within : at < length bytes
  pub is : kind_of (slice_index bytes at) ≡ kind
  pub no_blank : kind ≢ Blank

-- the place of the token where a value is due
abbrev pub FindsToken : List ℕ → ℕ → Result (ℕ × Kind) JsonFault → Type 0
FindsToken bytes start = ReadsOn bytes start due (λ token. token.0) (λ token k. go (due k))
