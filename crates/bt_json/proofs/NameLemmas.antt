-- Sets of names.
use Rattle.std.proofs.Common.{◌≡◌, ◌<◌, ℕ, zero, suc, ◌+◌, Bool, true, false, not, ◌||◌, List, [], ◌∷◌, ◌++◌, map, take, length, get_or, String, refl, sym, ap, ◌∙◌, arith, true≢false}
use Rattle.std.specs.Prelude.{string_bytes}
use Rattle.std.specs.List.{list_any, IsDistinct, AllByRecursion}
use Rattle.std.specs.Str.{bytes_eq}
use Rattle.std.specs.Global.{Global}
use Rattle.std.proofs.lemmas.Slice.Eq.{bytes_eq-Decides}
use Rattle.std.proofs.lemmas.List.{map_more, take-map}
use Rattle.bt_json.specs.inner.Reading.{has_name}
use Rattle.bt_json.specs.inner.Names.{GoesOn}
use Rattle.bt_json.proofs.Levels.{any_along}

-- what a set tells of a name that is put in
pub added_name : (keys : List (String Global)) (s : String Global) (name : List ℕ) (added : Bool) → string_bytes s ≡ name
    → added ≡ not (list_any (λ x. bytes_eq (string_bytes s) (string_bytes x)) keys) → added ≡ not (has_name (map string_bytes keys) name)
added_name keys s name added e h = h ∙ ap not (sym (any_along string_bytes (string_bytes s) keys)) ∙ ap (λ n. not (has_name (map string_bytes keys) n)) e

-- texts of which one isn't the other
differ : (xs ys : List ℕ) → bytes_eq xs ys ≡ false → bytes_eq ys xs ≡ false
differ xs ys e = by (bytes_eq ys xs) refl
  where
    by : (b : Bool) → bytes_eq ys xs ≡ b → bytes_eq ys xs ≡ false
    by true h = absurd (true≢false (sym ((bytes_eq-Decides xs ys).1 (sym ((bytes_eq-Decides ys xs).0 h))) ∙ e))
    by false h = h

all_at : {X : Type 0} (P : X → Type 0) (xs : List X) (i : ℕ) (d : X) → i < length xs → AllByRecursion P xs → P (get_or xs i d)
all_at P [] i d lt all = absurd (omega arith)
all_at P (x ∷ xs) zero d lt all = all.0
all_at P (x ∷ xs) (suc i) d lt all = all_at P xs i d (omega arith) all.1

-- a name of a set stands at no place before
pub first_there : (keys : List (String Global)) (i : ℕ) (d : String Global) → i < length keys → IsDistinct (λ s t. bytes_eq (string_bytes s) (string_bytes t)) keys
    → has_name (take i (map string_bytes keys)) (string_bytes (get_or keys i d)) ≡ false
unfolding IsDistinct
first_there [] i d lt distinct = absurd (omega arith)
first_there (k ∷ keys) zero d lt distinct = refl
first_there (k ∷ keys) (suc i) d lt distinct =
    let apart = differ (string_bytes k) (string_bytes (get_or keys i d)) (all_at _ keys i d (omega arith) distinct.0) in
    ap (λ b. b || has_name (take i (map string_bytes keys)) (string_bytes (get_or keys i d))) apart ∙ first_there keys i d (omega arith) distinct.1

-- the first names and the next one
front_next : (keys : List (String Global)) (i : ℕ) (d : String Global) → i < length keys
    → take (i + 1) (map string_bytes keys) ≡ take i (map string_bytes keys) ++ string_bytes (get_or keys i d) ∷ []
front_next keys i d lt = take-map string_bytes (i + 1) keys ∙ map_more string_bytes keys i d lt ∙ ap (λ ns. ns ++ string_bytes (get_or keys i d) ∷ []) (sym (take-map string_bytes i keys))

-- the name at a place of a set
pub goes_on_at : (keys : List (String Global)) (i : ℕ) (d : String Global) (name : List ℕ) → i < length keys → IsDistinct (λ s t. bytes_eq (string_bytes s) (string_bytes t)) keys
    → string_bytes (get_or keys i d) ≡ name → GoesOn (map string_bytes keys) i name
goes_on_at keys i d name lt distinct e = record {
  next = front_next keys i d lt ∙ ap (λ n. take i (map string_bytes keys) ++ n ∷ []) e;
  new = ap (has_name (take i (map string_bytes keys))) (sym e) ∙ first_there keys i d lt distinct;
}

-- sets that begin alike and have the same next name
pub alike_next : (xs ys : List (String Global)) (i : ℕ) (d e : String Global) → i < length xs → i < length ys → take i (map string_bytes xs) ≡ take i (map string_bytes ys)
    → string_bytes (get_or xs i d) ≡ string_bytes (get_or ys i e) → take (i + 1) (map string_bytes xs) ≡ take (i + 1) (map string_bytes ys)
alike_next xs ys i d e lt_x lt_y alike same =
    front_next xs i d lt_x ∙ ap (λ ns. ns ++ string_bytes (get_or xs i d) ∷ []) alike ∙ ap (λ n. take i (map string_bytes ys) ++ n ∷ []) same ∙ sym (front_next ys i e lt_y)

-- the text that `==` told to be a name
pub told_same : (xs ys : List ℕ) → bytes_eq xs ys ≡ true → xs ≡ ys
told_same xs ys = (bytes_eq-Decides xs ys).0

pub not_not : (b : Bool) → not b ≡ false → b ≡ true
not_not true e = refl
not_not false e = absurd (true≢false e)

-- a name that was there isn't taken, and one that wasn't is
pub taken_before : (added there : Bool) → added ≡ not there → added ≡ false → there ≡ true
taken_before added true e h = refl
taken_before added false e h = absurd (true≢false (sym e ∙ h))

pub taken_first : (added there : Bool) → added ≡ not there → added ≡ true → there ≡ false
taken_first added true e h = absurd (true≢false (sym h ∙ e))
taken_first added false e h = refl
