-- A tree, level by level.
use Rattle.std.proofs.Common.{◌≡◌, ℕ, suc, ◌+◌, Bool, true, false, cond, ltb, List, [], ◌∷◌, ◌++◌, map, length, Option, Some, None, Vec, String, refl, ap, ◌∙◌, sym, rules, arith, inl, inr, one-add}
use Rattle.std.proofs.lemmas.Bool.{cases_lt, le-ltb, lt-ltb, and_from, and_parts}
use Rattle.std.specs.Prelude.{option_and_then, string_bytes, position, not, nat_lt}
use Rattle.std.specs.List.{slice_get, position_or_len, list_all}
use Rattle.std.specs.Str.{bytes_eq}
use Rattle.std.specs.Global.{Global}
use Rattle.std.specs.declared.rc.Rc.{Rc}
use Rattle.bt_json.specs.inner.Names.{Set, keys_of}
use Rattle.bt_json.specs.Json.{Json, null, boolean, list, object, value_at}
use Rattle.bt_json.specs.Stands.{json_of, items_of, members_of, is_full}
use Rattle.bt_json.specs.declared.tree.Tree.{Tree, the_lemmas}
use Rattle.bt_json.specs.declared.tree.Tree.{Null, Bool as Boolean}
use Rattle.bt_json.specs.declared.tree.Tree.TheViews as views

-- one place further on
abbrev place : Bool → ℕ → ℕ → Option ℕ
place b n len = cond (nat_lt (cond (not b) (1 + n) 0) (suc len)) (Some (cond (not b) (1 + n) 0)) None

find_step : {V : Type 0} (b : Bool) (n len : ℕ) (v : V) (vs : List V) → option_and_then (slice_get (v ∷ vs)) (place b n len) ≡ cond b (Some v) (option_and_then (slice_get vs) (cond (nat_lt n len) (Some n) None))
find_step true n len v vs = let a : ltb 0 (suc len) ≡ true = lt-ltb _ _ (omega arith) in rw a refl
find_step false n len v vs = elim (cases_lt n len) [
  | inl lt ↦ let a : ltb (1 + n) (suc len) ≡ true = lt-ltb _ _ (omega arith) in let b : ltb n len ≡ true = lt-ltb _ _ lt in rw (a, b) (ap (slice_get (v ∷ vs)) (one-add n))
  | inr le ↦ let a : ltb (1 + n) (suc len) ≡ false = le-ltb _ _ (omega arith) in let b : ltb n len ≡ false = le-ltb _ _ le in rw (a, b) refl
]

none_there : {V : Type 0} (o : Option ℕ) → option_and_then (slice_get {X = V} []) o ≡ None
none_there None = refl
none_there (Some i) = refl

-- the value at the place of a name is the member of that name
pub value_at-members_of : (names : List (String Global)) (vs : List Json) (name : List ℕ) → value_at (members_of (map string_bytes names) vs) name ≡ option_and_then (slice_get vs) (position (λ k. bytes_eq name (string_bytes k)) names)
value_at-members_of [] vs name = refl
value_at-members_of (k ∷ ks) [] name = sym (none_there (position (λ j. bytes_eq name (string_bytes j)) (k ∷ ks)))
value_at-members_of (k ∷ ks) (v ∷ vs) name = ap (cond (bytes_eq name (string_bytes k)) (Some v)) (value_at-members_of ks vs name) ∙ sym (find_step (bytes_eq name (string_bytes k)) (position_or_len (λ j. bytes_eq name (string_bytes j)) ks) (length ks) v vs)

pub json-List : (v : Vec Tree Global) → json_of (views.List v) ≡ list (items_of (map json_of v.items))
json-List v = search (rules, the_lemmas)

pub json-Object : (names : Rc Set Global) (v : Vec Tree Global) → json_of (views.Object names v) ≡ object (members_of (keys_of names.value) (map json_of v.items))
json-Object names v = search (rules, the_lemmas)

pub json-Bool : (b : Bool) → json_of (Boolean b) ≡ boolean b
json-Bool b = search (rules, the_lemmas)

pub json-Null : json_of Null ≡ null
json-Null = search (rules, the_lemmas)

-- ---- as many values as names

-- a list that gets one more full tree
full_more : (ts : List Tree) (t : Tree) → list_all (λ full. full) (map is_full ts) ≡ true → is_full t ≡ true → list_all (λ full. full) (map is_full (ts ++ t ∷ [])) ≡ true
full_more [] t all one = and_from (is_full t) true one refl
full_more (x ∷ ts) t all one =
    let both = and_parts (is_full x) (list_all (λ full. full) (map is_full ts)) all in
    and_from (is_full x) (list_all (λ full. full) (map is_full (ts ++ t ∷ []))) both.0 (full_more ts t both.1 one)
