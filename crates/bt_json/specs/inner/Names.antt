-- The names of an object as far as it is read.
use Rattle.std.specs.Prelude.{◌≡◌, ℕ, List, map, take, not, false, Bool, string_bytes, ◌++◌, ◌∷◌, [], IsTrue, None, ◌-◌, ◌+◌, true, Result, Ok, Err}
use Rattle.std.specs.Global.{Global}
use Rattle.std.specs.Prelude.{String}
use Rattle.bt_json.specs.Json.{Json}
use Rattle.bt_json.specs.declared.fault.JsonFault.{JsonFault}
use Rattle.indexmap.specs.IndexSet.{IndexSet}
use Rattle.std.specs.declared.hash.FoldHasher.{FoldHasher}
use Rattle.std.specs.declared.hash.BuildHasherDefault.{BuildHasherDefault}
use Rattle.bt_json.specs.inner.Reading.{Role, Frame, in_object, has_name, go, due, name_due, in_text, between, finish_text}
use Rattle.bt_json.specs.inner.Running.{IsLater, rest_of, rest_after, Faults, ReadsOn}
use Rattle.bt_json.specs.declared.names.NamesSoFar.{NamesSoFar}
use Rattle.bt_json.specs.declared.names.NamesSoFar.TheVariants.{Front, Own}

-- the set of names that a tree holds
abbrev pub Set : Type 0
Set = IndexSet (String Global) (BuildHasherDefault FoldHasher)

-- its names, in their order
abbrev pub keys_of : Set → List (List ℕ)
keys_of set = map string_bytes set.keys

-- the first names of a set, that many
abbrev pub front_of : Set → ℕ → List (List ℕ)
front_of set count = take count (keys_of set)

-- the names that an object has so far
abbrev pub names_of : NamesSoFar → List (List ℕ)
names_of (Front set count) = front_of set.value count
names_of (Own set) = keys_of set

-- the set that it follows, or its own
abbrev pub set_of : NamesSoFar → Set
set_of (Front set count) = set.value
set_of (Own set) = set

-- the name with that place is this one, and stands at no place before
pub record GoesOn (names : List (List ℕ)) (count : ℕ) (name : List ℕ) : Type 0 where
  pub next : take (count + 1) names ≡ take count names ++ name ∷ []
  pub new : has_name (take count names) name ≡ false

-- the name was put behind the others unless it is among them, and it is told whether it wasn't
pub record AddsName (old new : List (List ℕ)) (name : List ℕ) (told : Bool) : Type 0 where
  pub added : told ≡ not (has_name old name)
  pub names : IsTrue told → new ≡ old ++ name ∷ []

-- A name was read that ends before that place. It was put behind the others, unless it is among them.
pub record NameTaken (bytes : List ℕ) (start : ℕ) (old new : List (List ℕ)) (taken : Bool × ℕ) : Type 0 where
  pub later : IsLater bytes start taken.1
  pub name : List ℕ
  pub read : (role : Role) (k : List Frame) → rest_of bytes start (in_text [] None between role k) ≡ rest_after bytes taken.1 (finish_text true (taken.1 - 1) name role k)
  pub adds : AddsName old new name taken.0

-- a name behind its opening quote was taken, or the text that it is ends with the fault
abbrev pub TakesName : List ℕ → ℕ → List (List ℕ) → List (List ℕ) → Result (Bool × ℕ) JsonFault → Type 0
TakesName bytes start old new (Ok taken) = NameTaken bytes start old new taken
TakesName bytes start old new (Err f) = (role : Role) (k : List Frame) → Faults f (rest_of bytes start (in_text [] None between role k))

-- a name and the colon behind it, put behind the names before
abbrev pub TakesNameAndColon : List ℕ → ℕ → List (List ℕ) → List (List ℕ) → Result ℕ JsonFault → Type 0
TakesNameAndColon bytes start old new = ReadsOn {K = List Json × List Frame} bytes start (λ o. name_due old o.0 o.1) (λ at. at) (λ at o. go (due (in_object new o.0 ∷ o.1)))
