-- Texts behind one another, and places in lists and objects that go on.
use Rattle.std.proofs.Common.{◌≡◌, ℕ, ◌+◌, true, List, [], ◌∷◌, ◌++◌, length, refl, ap, ◌∙◌, sym, arith, append_assoc}
use Rattle.std.proofs.lemmas.List.{append-nil, length-append}
use Rattle.bt_json.specs.Json.{Json, list, object, Items, no_items, item, Members, no_members, member}
use Rattle.bt_json.specs.Stands.{items_of, members_of}
use Rattle.bt_json.specs.Grammar.{Texts, ◌▸◌, Byte, Blanks, is_blank, IsText, IsValue, MoreItems, MoreMembers}
use Rattle.bt_json.specs.Places as places
use Rattle.bt_json.specs.Places.{Frame, in_list, in_object, OnlyName, Named, Begun, Due, NameDue}

pub join : {A B : Texts} (a b : List ℕ) → A a → B b → (A ▸ B) (a ++ b)
join a b p q = record { front = a; back = b; first = p; second = q; whole = refl }

-- the second text goes on
pub extend : {A B C : Texts} (s t : List ℕ) → ((u : List ℕ) → B u → C (u ++ s)) → (A ▸ B) t → (A ▸ C) (t ++ s)
extend s t f j = record { front = j.front; back = j.back ++ s; first = j.first; second = f j.back j.second; whole = ap (λ (x : List ℕ). x ++ s) j.whole ∙ append_assoc j.front j.back s }

-- another text comes behind
pub behind_both : {A B C : Texts} (s t : List ℕ) → C s → (A ▸ B) t → (A ▸ (B ▸ C)) (t ++ s)
behind_both s t c j = extend s t (λ u b. join u s b c) j

-- of three texts, the last two go on
pub through : {A B X C : Texts} (s t : List ℕ) → ((u : List ℕ) → (B ▸ X) u → C (u ++ s)) → ((A ▸ B) ▸ X) t → (A ▸ C) (t ++ s)
through s t f j = record {
  front = j.first.front;
  back = (j.first.back ++ j.back) ++ s;
  first = j.first.first;
  second = f (j.first.back ++ j.back) (join j.first.back j.back j.first.second j.second);
  whole = ap (λ (x : List ℕ). x ++ s) (j.whole ∙ ap (λ (x : List ℕ). x ++ j.back) j.first.whole ∙ append_assoc j.first.front j.first.back j.back) ∙ append_assoc j.first.front (j.first.back ++ j.back) s;
}

pub blanks_more : (b : ℕ) (t : List ℕ) → is_blank b ≡ true → Blanks t → Blanks (t ++ b ∷ [])
blanks_more b [] e h = (e, tt)
blanks_more b (c ∷ t) e h = (h.0, blanks_more b t e h.1)

-- no blanks behind
pub no_blanks : {A B : Texts} (t : List ℕ) → (A ▸ B) t → (A ▸ (B ▸ Blanks)) t
no_blanks t j = record { front = j.front; back = j.back; first = j.first; second = record { front = j.back; back = []; first = j.second; second = tt; whole = sym (append-nil j.back) }; whole = j.whole }

-- a byte and nothing behind it
byte_alone : (b : ℕ) → (Byte b ▸ Blanks) (b ∷ [])
byte_alone b = record { front = b ∷ []; back = []; first = refl; second = tt; whole = refl }

-- ---- blanks where a value or a name is due

items_blank : (b : ℕ) (vs : List Json) (t : List ℕ) → is_blank b ≡ true → places.Items vs t → places.Items vs (t ++ b ∷ [])
items_blank b [] t e h = blanks_more b t e h
items_blank b (v ∷ vs) t e h = extend (b ∷ []) t (λ u. extend (b ∷ []) u (λ u. extend (b ∷ []) u (λ u. extend (b ∷ []) u (λ u. items_blank b vs u e)))) h

only_blank : (b : ℕ) (names : List (List ℕ)) (n t : List ℕ) → is_blank b ≡ true → OnlyName names n t → OnlyName names n (t ++ b ∷ [])
only_blank b [] n t e h = extend (b ∷ []) t (λ u. extend (b ∷ []) u (λ u. extend (b ∷ []) u (λ u. extend (b ∷ []) u (λ u. blanks_more b u e)))) h
only_blank b (m ∷ names) n t e h = absurd h

named_blank : (b : ℕ) (names : List (List ℕ)) (vs : List Json) (t : List ℕ) → is_blank b ≡ true → Named names vs t → Named names vs (t ++ b ∷ [])
named_blank b [] [] t e h = blanks_more b t e h
named_blank b [] (v ∷ vs) t e h = absurd h
named_blank b (n ∷ names) [] t e h = only_blank b names n t e h
named_blank b (n ∷ names) (v ∷ vs) t e h = extend (b ∷ []) t (λ u. extend (b ∷ []) u (λ u. extend (b ∷ []) u (λ u. extend (b ∷ []) u (λ u. extend (b ∷ []) u (λ u. extend (b ∷ []) u (λ u. extend (b ∷ []) u (λ u. extend (b ∷ []) u (λ u. named_blank b names vs u e)))))))) h

begun_blank : (b : ℕ) (f : Frame) (t : List ℕ) → is_blank b ≡ true → Begun f t → Begun f (t ++ b ∷ [])
begun_blank b (in_list vs) t e h = extend (b ∷ []) t (λ u. items_blank b vs u e) h
begun_blank b (in_object names vs) t e h = (h.0, extend (b ∷ []) t (λ u. named_blank b names vs u e) h.1)

pub due_blank : (b : ℕ) (k : List Frame) (t : List ℕ) → is_blank b ≡ true → Due k t → Due k (t ++ b ∷ [])
due_blank b [] t e h = blanks_more b t e h
due_blank b (f ∷ k) t e h = extend (b ∷ []) t (λ u. begun_blank b f u e) h

pub name_due_blank : (b : ℕ) (names : List (List ℕ)) (vs : List Json) (k : List Frame) (t : List ℕ) → is_blank b ≡ true → NameDue names vs k t → NameDue names vs k (t ++ b ∷ [])
name_due_blank b names vs k t e h = (h.0, extend (b ∷ []) t (λ u. extend (b ∷ []) u (λ u. named_blank b names vs u e)) h.1)

-- ---- lists

abbrev ListRest : Items → Texts
ListRest no_items t = ⊥
ListRest (item v rest) t = (Blanks ▸ IsValue v ▸ MoreItems rest) t

list_from_rest : (items : Items) (t : List ℕ) → (Byte 91 ▸ ListRest items) t → IsValue (list items) t
list_from_rest no_items t j = absurd j.second
list_from_rest (item v rest) t j = j

more_from_rest : (items : Items) (t : List ℕ) → (Blanks ▸ (Byte 44 ▸ ListRest items)) t → MoreItems items t
more_from_rest no_items t j = absurd j.second.second
more_from_rest (item v rest) t j = j

items_push : (vs : List Json) (v : Json) (t : List ℕ) → (places.Items vs ▸ (IsValue v ▸ Blanks)) t → places.Items (vs ++ v ∷ []) (t ++ 44 ∷ [])
items_push [] v t j = extend (44 ∷ []) t (λ u. extend (44 ∷ []) u (λ u b. join u (44 ∷ []) b (byte_alone 44))) j
items_push (w ∷ vs) v t j = through (44 ∷ []) t (λ u. through (44 ∷ []) u (λ u. through (44 ∷ []) u (λ u. through (44 ∷ []) u (λ u. items_push vs v u)))) j

items_close : (vs : List Json) (v : Json) (t : List ℕ) → (places.Items vs ▸ (IsValue v ▸ Blanks)) t → ListRest (items_of (vs ++ v ∷ [])) (t ++ 93 ∷ [])
items_close [] v t j = extend (93 ∷ []) t (λ u. extend (93 ∷ []) u (λ u b. join u (93 ∷ []) b refl)) j
items_close (w ∷ vs) v t j = through (93 ∷ []) t (λ u. through (93 ∷ []) u (λ u h. more_from_rest (items_of (vs ++ v ∷ [])) (u ++ 93 ∷ []) (through (93 ∷ []) u (λ u. through (93 ∷ []) u (λ u. items_close vs v u)) h))) j

-- a comma behind an item
pub list_goes_on : (vs : List Json) (v : Json) (k : List Frame) (t : List ℕ) → (Due (in_list vs ∷ k) ▸ (IsValue v ▸ Blanks)) t → Due (in_list (vs ++ v ∷ []) ∷ k) (t ++ 44 ∷ [])
list_goes_on vs v k t j = through (44 ∷ []) t (λ u. through (44 ∷ []) u (λ u. items_push vs v u)) j

-- the bracket that closes a list behind an item
pub list_closed : (vs : List Json) (v : Json) (k : List Frame) (t : List ℕ) → (Due (in_list vs ∷ k) ▸ (IsValue v ▸ Blanks)) t → (Due k ▸ IsValue (list (items_of (vs ++ v ∷ [])))) (t ++ 93 ∷ [])
list_closed vs v k t j = through (93 ∷ []) t (λ u h. list_from_rest (items_of (vs ++ v ∷ [])) (u ++ 93 ∷ []) (through (93 ∷ []) u (λ u. items_close vs v u) h)) j

pub empty_list_closed : (k : List Frame) (t : List ℕ) → (Due k ▸ (Byte 91 ▸ Blanks)) t → (Due k ▸ IsValue (list no_items)) (t ++ 93 ∷ [])
empty_list_closed k t j = extend (93 ∷ []) t (λ u. behind_both (93 ∷ []) u refl) j

-- ---- objects

abbrev ObjectRest : Members → Texts
ObjectRest no_members t = ⊥
ObjectRest (member n v rest) t = (Blanks ▸ IsText n ▸ Blanks ▸ Byte 58 ▸ Blanks ▸ IsValue v ▸ MoreMembers rest) t

object_from_rest : (all : Members) (t : List ℕ) → (Byte 123 ▸ ObjectRest all) t → IsValue (object all) t
object_from_rest no_members t j = absurd j.second
object_from_rest (member n v rest) t j = j

members_from_rest : (all : Members) (t : List ℕ) → (Blanks ▸ (Byte 44 ▸ ObjectRest all)) t → MoreMembers all t
members_from_rest no_members t j = absurd j.second.second
members_from_rest (member n v rest) t j = j

-- a colon behind a name
named_colon : (names : List (List ℕ)) (vs : List Json) (n t : List ℕ) → length names ≡ length vs → (Named names vs ▸ (IsText n ▸ Blanks)) t → Named (names ++ n ∷ []) vs (t ++ 58 ∷ [])
named_colon [] [] n t len j = extend (58 ∷ []) t (λ u. extend (58 ∷ []) u (λ u b. join u (58 ∷ []) b (byte_alone 58))) j
named_colon [] (v ∷ vs) n t len j = absurd j.first
named_colon (m ∷ names) [] n t len j = absurd (omega arith)
named_colon (m ∷ names) (v ∷ vs) n t len j =
    through (58 ∷ []) t (λ u. through (58 ∷ []) u (λ u. through (58 ∷ []) u (λ u. through (58 ∷ []) u (λ u. through (58 ∷ []) u (λ u. through (58 ∷ []) u (λ u. through (58 ∷ []) u (λ u. through (58 ∷ []) u (λ u. named_colon names vs n u (omega arith))))))))) j

-- a comma behind a member
named_push : (names : List (List ℕ)) (vs : List Json) (v : Json) (t : List ℕ) → length names ≡ length vs + 1 → (Named names vs ▸ (IsValue v ▸ Blanks)) t → Named names (vs ++ v ∷ []) (t ++ 44 ∷ [])
named_push [] vs v t len j = absurd (omega arith)
named_push (n ∷ []) [] v t len j =
    through (44 ∷ []) t (λ u. through (44 ∷ []) u (λ u. through (44 ∷ []) u (λ u. through (44 ∷ []) u (λ u. extend (44 ∷ []) u (λ u. extend (44 ∷ []) u (λ u b. join u (44 ∷ []) b (byte_alone 44))))))) j
named_push (n ∷ m ∷ names) [] v t len j = absurd j.first
named_push (n ∷ names) (w ∷ vs) v t len j =
    through (44 ∷ []) t (λ u. through (44 ∷ []) u (λ u. through (44 ∷ []) u (λ u. through (44 ∷ []) u (λ u. through (44 ∷ []) u (λ u. through (44 ∷ []) u (λ u. through (44 ∷ []) u (λ u. through (44 ∷ []) u (λ u. named_push names vs v u (omega arith))))))))) j

named_close : (names : List (List ℕ)) (vs : List Json) (v : Json) (t : List ℕ) → length names ≡ length vs + 1 → (Named names vs ▸ (IsValue v ▸ Blanks)) t → ObjectRest (members_of names (vs ++ v ∷ [])) (t ++ 125 ∷ [])
named_close [] vs v t len j = absurd (omega arith)
named_close (n ∷ []) [] v t len j =
    through (125 ∷ []) t (λ u. through (125 ∷ []) u (λ u. through (125 ∷ []) u (λ u. through (125 ∷ []) u (λ u. extend (125 ∷ []) u (λ u. extend (125 ∷ []) u (λ u b. join u (125 ∷ []) b refl)))))) j
named_close (n ∷ m ∷ names) [] v t len j = absurd j.first
named_close (n ∷ names) (w ∷ vs) v t len j =
    through (125 ∷ []) t (λ u. through (125 ∷ []) u (λ u. through (125 ∷ []) u (λ u. through (125 ∷ []) u (λ u. through (125 ∷ []) u (λ u. through (125 ∷ []) u (λ u h.
    members_from_rest (members_of names (vs ++ v ∷ [])) (u ++ 125 ∷ []) (through (125 ∷ []) u (λ u. through (125 ∷ []) u (λ u. named_close names vs v u (omega arith))) h))))))) j

pub colon_stands : (names : List (List ℕ)) (vs : List Json) (n : List ℕ) (k : List Frame) (t : List ℕ) → (NameDue names vs k ▸ (IsText n ▸ Blanks)) t → Due (in_object (names ++ n ∷ []) vs ∷ k) (t ++ 58 ∷ [])
colon_stands names vs n k t j =
    let inner : ((Due k ▸ (Byte 123 ▸ Named names vs)) ▸ (IsText n ▸ Blanks)) t = record { front = j.front; back = j.back; first = j.first.1; second = j.second; whole = j.whole } in
    through (58 ∷ []) t (λ u h. (omega (arith, j.first.0, length-append names (n ∷ [])), through (58 ∷ []) u (λ u. named_colon names vs n u j.first.0) h)) inner

pub object_goes_on : (names : List (List ℕ)) (vs : List Json) (v : Json) (k : List Frame) (t : List ℕ) → (Due (in_object names vs ∷ k) ▸ (IsValue v ▸ Blanks)) t → NameDue names (vs ++ v ∷ []) k (t ++ 44 ∷ [])
object_goes_on names vs v k t j =
    let len : length names ≡ length vs + 1 = j.first.second.0 in
    let inner : ((Due k ▸ (Byte 123 ▸ Named names vs)) ▸ (IsValue v ▸ Blanks)) t = record { front = j.front; back = j.back; first = record { front = j.first.front; back = j.first.back; first = j.first.first; second = j.first.second.1; whole = j.first.whole }; second = j.second; whole = j.whole } in
    (omega (arith, length-append vs (v ∷ [])), through (44 ∷ []) t (λ u. through (44 ∷ []) u (λ u. named_push names vs v u len)) inner)

pub object_closed : (names : List (List ℕ)) (vs : List Json) (v : Json) (k : List Frame) (t : List ℕ) → (Due (in_object names vs ∷ k) ▸ (IsValue v ▸ Blanks)) t → (Due k ▸ IsValue (object (members_of names (vs ++ v ∷ [])))) (t ++ 125 ∷ [])
object_closed names vs v k t j =
    let len : length names ≡ length vs + 1 = j.first.second.0 in
    let inner : ((Due k ▸ (Byte 123 ▸ Named names vs)) ▸ (IsValue v ▸ Blanks)) t = record { front = j.front; back = j.back; first = record { front = j.first.front; back = j.first.back; first = j.first.first; second = j.first.second.1; whole = j.first.whole }; second = j.second; whole = j.whole } in
    through (125 ∷ []) t (λ u h. object_from_rest (members_of names (vs ++ v ∷ [])) (u ++ 125 ∷ []) (through (125 ∷ []) u (λ u. named_close names vs v u len) h)) inner

pub empty_object_closed : (k : List Frame) (t : List ℕ) → (Due k ▸ (Byte 123 ▸ Blanks)) t → (Due k ▸ IsValue (object no_members)) (t ++ 125 ∷ [])
empty_object_closed k t j = extend (125 ∷ []) t (λ u. behind_both (125 ∷ []) u refl) j

-- ---- regrouped

pub assoc : {A B C : Texts} (t : List ℕ) → ((A ▸ B) ▸ C) t → (A ▸ (B ▸ C)) t
assoc t j = record {
  front = j.first.front;
  back = j.first.back ++ j.back;
  first = j.first.first;
  second = join j.first.back j.back j.first.second j.second;
  whole = j.whole ∙ ap (λ (x : List ℕ). x ++ j.back) j.first.whole ∙ append_assoc j.first.front j.first.back j.back;
}

-- the second text otherwise
pub second_as : {A B C : Texts} (t : List ℕ) → ((u : List ℕ) → B u → C u) → (A ▸ B) t → (A ▸ C) t
second_as t f j = record { front = j.front; back = j.back; first = j.first; second = f j.back j.second; whole = j.whole }

-- a text and nothing
pub and_nothing : {B C : Texts} (t : List ℕ) → C [] → B t → (B ▸ C) t
and_nothing t c b = record { front = t; back = []; first = b; second = c; whole = sym (append-nil t) }
