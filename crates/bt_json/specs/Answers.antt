-- What reading a text answers: the value at its front with the place after it, or the first thing that is wrong.
use Rattle.std.specs.Prelude.{◌≡◌, ℕ, ◌+◌, ◌<◌, ◌≤◌, max, Bool, false, ◌||◌, ◌&&◌, ◌==◌, nat_le, List, [], ◌∷◌, ◌++◌, length, take, drop, slice_get, Some, ◌⊎◌, Contains, Result, Ok, Err, ⊤}
use Rattle.bt_json.specs.Json.{Json, null, boolean, number, text, list, object, Items, no_items, item, Members, no_members, member}
use Rattle.bt_json.specs.Grammar.{◌▸◌, Blanks, IsText, IsValue}
use Rattle.bt_json.specs.Places.{Frame, Due, NameDue}
use Rattle.bt_json.specs.declared.limits.TheConstants.{MOST_LEVELS}
use Rattle.bt_json.specs.declared.fault.JsonFault.{JsonFault}
use Rattle.bt_json.specs.declared.fault.JsonFault.TheVariants as faults

-- ---- what is asked of a value

abbrev mutual
  -- how many levels of lists and objects there are
  pub depth_of : Json → ℕ
  depth_of null = 0
  depth_of (boolean b) = 0
  depth_of (number n) = 0
  depth_of (text t) = 0
  depth_of (list items) = items_depth items + 1
  depth_of (object members) = members_depth members + 1

  -- how many there are at most in an item
  pub items_depth : Items → ℕ
  items_depth no_items = 0
  items_depth (item v rest) = max (depth_of v) (items_depth rest)

  -- how many there are at most in a member's value
  pub members_depth : Members → ℕ
  members_depth no_members = 0
  members_depth (member n v rest) = max (depth_of v) (members_depth rest)

abbrev mutual
  -- no object has a name twice
  pub HasDistinctNames : Json → Type 0
  HasDistinctNames null = ⊤
  HasDistinctNames (boolean b) = ⊤
  HasDistinctNames (number n) = ⊤
  HasDistinctNames (text t) = ⊤
  HasDistinctNames (list items) = ItemsHaveDistinctNames items
  HasDistinctNames (object members) = AreNew [] members

  -- no object in these items has a name twice
  pub ItemsHaveDistinctNames : Items → Type 0
  ItemsHaveDistinctNames no_items = ⊤
  ItemsHaveDistinctNames (item v rest) = HasDistinctNames v × ItemsHaveDistinctNames rest

  -- no member has one of these names or the name of a member before it, and no object in a member's value has a name
  -- twice
  pub AreNew : List (List ℕ) → Members → Type 0
  AreNew names no_members = ⊤
  AreNew names (member n v rest) = (Contains names n → ⊥) × HasDistinctNames v × AreNew (names ++ n ∷ []) rest

-- ---- the value at the front

-- a digit, a point, an e or a sign
abbrev pub is_number_byte : ℕ → Bool
is_number_byte b = (nat_le 48 b && nat_le b 57) || (b == 46) || (b == 101) || (b == 69) || (b == 43) || (b == 45)

-- A number ends only where its characters do; any other value may end before any bytes.
abbrev pub EndsBefore : Json → List ℕ → Type 0
EndsBefore (number n) (b ∷ rest) = is_number_byte b ≡ false
EndsBefore (number n) [] = ⊤
EndsBefore null rest = ⊤
EndsBefore (boolean b) rest = ⊤
EndsBefore (text t) rest = ⊤
EndsBefore (list all) rest = ⊤
EndsBefore (object all) rest = ⊤

-- blanks and a value stand at the front of the text, and this is the place after them
pub record IsFront (bytes : List ℕ) (v : Json) (after : ℕ) : Type 0 where
  pub within : after ≤ length bytes
  pub spelled : (Blanks ▸ IsValue v) (take after bytes)
  pub ends : EndsBefore v (drop after bytes)

-- some value stands at the front of the text, of however many levels, and with whatever names
abbrev pub HasValue : List ℕ → Type 0
HasValue bytes = (v : Json) × (after : ℕ) × IsFront bytes v after

-- the value at the front has no level too many, and no object with a name twice
pub record IsJsonAt (bytes : List ℕ) (v : Json) (after : ℕ) : Type 0 where
  pub front : IsFront bytes v after
  pub shallow : depth_of v ≤ MOST_LEVELS
  pub distinct : HasDistinctNames v

-- ---- what is wrong

-- No text that begins with the bytes up to and with the one there has a value at its front; or the bytes end there, and
-- have none.
abbrev pub IsBad : List ℕ → ℕ → Type 0
IsBad bytes at = ((at < length bytes) × ((more : List ℕ) → HasValue (take (at + 1) bytes ++ more) → ⊥)) ⊎ ((at ≡ length bytes) × (HasValue bytes → ⊥))

-- a bracket or a brace stands there where a value is due, within as many open lists and objects as there may be
pub record IsDeep (bytes : List ℕ) (at : ℕ) : Type 0 where
  pub frames : List Frame
  pub levels : length frames ≡ MOST_LEVELS
  pub due : Due frames (take at bytes)
  pub opens : (slice_get bytes at ≡ Some 91) ⊎ (slice_get bytes at ≡ Some 123)

-- a name stands there, up to its closing quote, that its object has already
pub record IsTwice (bytes : List ℕ) (at close : ℕ) : Type 0 where
  pub names : List (List ℕ)
  pub values : List Json
  pub frames : List Frame
  pub name : List ℕ
  pub spelling : List ℕ
  pub rest : List ℕ
  pub due : NameDue names values frames (take at bytes)
  pub spelled : IsText name spelling
  pub whole : drop at bytes ≡ spelling ++ rest
  pub closes : close + 1 ≡ at + length spelling
  pub there : Contains names name

-- the byte with which the fault is known: the bad byte, the bracket, or the closing quote of the repeated name
abbrev pub FoundAt : List ℕ → JsonFault → ℕ → Type 0
FoundAt bytes (faults.Json at) place = (place ≡ at) × IsBad bytes at
FoundAt bytes (faults.Deep at) place = (place ≡ at) × IsDeep bytes at
FoundAt bytes (faults.DuplicateKey at) place = IsTwice bytes at place
FoundAt bytes faults.Memory place = ⊥

-- the text has the fault, and none that is known by an earlier byte
pub record IsFirst (bytes : List ℕ) (f : JsonFault) : Type 0 where
  pub place : ℕ
  pub found : FoundAt bytes f place
  pub first : (g : JsonFault) (other : ℕ) → FoundAt bytes g other → place ≤ other

-- ---- answers

-- the right answer to the text: the value at its front with the place after it, or its first fault
abbrev pub IsRead : List ℕ → Result (Json × ℕ) JsonFault → Type 0
IsRead bytes (Ok read) = IsJsonAt bytes read.0 read.1
IsRead bytes (Err fault) = IsFirst bytes fault
