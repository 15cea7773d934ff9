-- Lenient reading comes to each place where a value or a name is due.
use Rattle.std.proofs.Common.{◌≡◌, ℕ, ◌+◌, ◌-◌, false, List, [], ◌∷◌, ◌++◌, length, None, refl, ap, ap₂, ◌∙◌, sym, subst, arith, append_assoc}
use Rattle.std.proofs.lemmas.List.{append-nil}
use Rattle.bt_json.specs.Json.{Json}
use Rattle.bt_json.specs.Grammar.{Texts, Joined, Byte, Blanks, IsText, IsValue}
use Rattle.bt_json.specs.Places as places
use Rattle.bt_json.specs.Places.{Frame, in_list, in_object, Named, Due, NameDue}
use Rattle.bt_json.specs.Answers.{EndsBefore}
use Rattle.bt_json.specs.inner.Running.{SkipsBlanks}
use Rattle.bt_json.specs.inner.Reading.{State, Step, go, step, as_name, between, due, opened_list, behind, opened_object, name_due, colon_due, in_text, deliver, step_due, step_opened_list}
use Rattle.bt_json.proofs.ByteKinds.{kind_of-list_opens, kind_of-object_opens}
use Rattle.bt_json.proofs.Eating.{Eats, eats_byte, eats_both, eats_then, eats_same, eats_next, Anything, eats_blanks}
use Rattle.bt_json.proofs.Eaten.{Fronts, value_fronts, first_value, before_joined, comma_in_list, comma_in_object, colon_in, quote_of_name, quote_of_first, name_read, eats_value}
use Rattle.bt_json.proofs.Blanks.{skips_due, skips_opened_list, skips_behind, skips_opened_object, skips_name_due, skips_colon_due}

-- one text behind another
seq : {A B : Texts} (s mid : State) (t : List ℕ) (next : ℕ → Step) (j : Joined A B t) → Eats false s j.front (λ n. go mid) Anything → Eats false mid j.back next Anything → Eats false s t next Anything
seq s mid t next j e f = eats_same false s (j.front ++ j.back) t next Anything (sym j.whole) (eats_then false s mid j.front j.back next Anything e f)

byte_is : (s : State) (b : ℕ) (t : List ℕ) (next : ℕ → Step) → t ≡ b ∷ [] → Eats false s (b ∷ []) next Anything → Eats false s t next Anything
byte_is s b t next e p = eats_same false s (b ∷ []) t next Anything (sym e) p

-- a value, blanks and a comma
value_comma : {X : Texts} (f : Frame) (k : List Frame) (v : Json) (mid : State) (t : List ℕ) (next : ℕ → Step) (j : Joined (IsValue v) (Joined Blanks (Joined (Byte 44) X)) t) → Eats false (behind v f k) (44 ∷ []) (λ n. go mid) Anything
    → Eats false mid j.second.second.back next Anything → Eats false (due (f ∷ k)) t next Anything
value_comma f k v mid t next j comma more =
    let s : State = behind v f k in
    let w = j.second in
    let behind_comma = seq s mid w.back next w.second (byte_is s 44 w.second.front (λ n. go mid) w.second.first comma) more in
    let behind_value = seq s s j.back next w (eats_blanks false s w.front (skips_behind false v f k) w.first) behind_comma in
    let value : Eats false (due (f ∷ k)) j.front (λ n. go s) (EndsBefore v) = eats_next false (due (f ∷ k)) j.front (deliver v (f ∷ k)) (λ n. go s) (EndsBefore v) (λ n. refl) (eats_value false (f ∷ k) v j.front tt j.first) in
    eats_same false (due (f ∷ k)) (j.front ++ j.back) t next Anything (sym j.whole)
    (eats_both false (due (f ∷ k)) (λ n. s) j.front j.back next (EndsBefore v) Anything value (λ n. behind_value) (λ r h. before_joined v 44 j.back r refl w))

-- ---- lists

items_eaten : (vs us : List Json) (k : List Frame) (t : List ℕ) → places.Items vs t → Eats false (due (in_list us ∷ k)) t (λ n. go (due (in_list (us ++ vs) ∷ k))) Anything
items_eaten [] us k t h = subst (λ (x : List Json). Eats false (due (in_list us ∷ k)) t (λ n. go (due (in_list x ∷ k))) Anything) (sym (append-nil us)) (eats_blanks false (due (in_list us ∷ k)) t (skips_due false (in_list us ∷ k)) h)
items_eaten (v ∷ vs) us k t j =
    let s : State = due (in_list us ∷ k) in
    let mid : State = due (in_list (us ++ v ∷ []) ∷ k) in
    let more = items_eaten vs (us ++ v ∷ []) k j.second.second.second.back j.second.second.second.second in
    let same = eats_next false mid j.second.second.second.back (λ n. go (due (in_list ((us ++ v ∷ []) ++ vs) ∷ k))) (λ n. go (due (in_list (us ++ v ∷ vs) ∷ k))) Anything (λ n. ap (λ (x : List Json). go (due (in_list x ∷ k))) (append_assoc us (v ∷ []) vs)) more in
    seq s s t (λ n. go (due (in_list (us ++ v ∷ vs) ∷ k))) j (eats_blanks false s j.front (skips_due false (in_list us ∷ k)) j.first)
    (value_comma (in_list us) k v mid j.back (λ n. go (due (in_list (us ++ v ∷ vs) ∷ k))) j.second (comma_in_list false v us k) same)

-- where a value is due
abbrev pub due_state : List Frame → State
due_state [] = due []
due_state (in_list [] ∷ k) = opened_list k
due_state (in_list (v ∷ vs) ∷ k) = due (in_list (v ∷ vs) ∷ k)
due_state (in_object names vs ∷ k) = due (in_object names vs ∷ k)

fronts_more : (a b t : List ℕ) → t ≡ a ++ b → Fronts a → Fronts t
fronts_more a b t e f = record { byte = f.byte; rest = f.rest ++ b; whole = e ∙ ap (λ (x : List ℕ). x ++ b) f.whole; blank = f.blank; closes = f.closes }

list_begun : (vs : List Json) (k : List Frame) (t : List ℕ) → places.Items vs t → Eats false (opened_list k) t (λ n. go (due_state (in_list vs ∷ k))) Anything
list_begun [] k t h = eats_blanks false (opened_list k) t (skips_opened_list false k) h
list_begun (v ∷ vs) k t j =
    let s : State = opened_list k in
    let mid : State = due (in_list (v ∷ []) ∷ k) in
    let more = items_eaten vs (v ∷ []) k j.second.second.second.back j.second.second.second.second in
    seq s s t (λ n. go (due (in_list (v ∷ vs) ∷ k))) j (eats_blanks false s j.front (skips_opened_list false k) j.first)
    (first_value false k j.back (λ n. go (due (in_list (v ∷ vs) ∷ k))) Anything (fronts_more j.second.front j.second.back j.back j.second.whole (value_fronts v j.second.front j.second.first))
    (value_comma (in_list []) k v mid j.back (λ n. go (due (in_list (v ∷ vs) ∷ k))) j.second (comma_in_list false v [] k) more))

list_opens : (k : List Frame) → Eats false (due k) (91 ∷ []) (λ n. go (opened_list k)) Anything
unfolding step
list_opens k = eats_byte false (due k) 91 (λ n. go (opened_list k)) (λ at. ap (step_due false at k 91) kind_of-list_opens)

object_opens : (k : List Frame) → Eats false (due k) (123 ∷ []) (λ n. go (opened_object k)) Anything
unfolding step
object_opens k = eats_byte false (due k) 123 (λ n. go (opened_object k)) (λ at. ap (step_due false at k 123) kind_of-object_opens)

opens_first_list : (k : List Frame) → Eats false (opened_list k) (91 ∷ []) (λ n. go (opened_list (in_list [] ∷ k))) Anything
unfolding step
opens_first_list k = eats_byte false (opened_list k) 91 (λ n. go (opened_list (in_list [] ∷ k))) (λ at. ap (step_opened_list false at k 91) kind_of-list_opens)

opens_first_object : (k : List Frame) → Eats false (opened_list k) (123 ∷ []) (λ n. go (opened_object (in_list [] ∷ k))) Anything
unfolding step
opens_first_object k = eats_byte false (opened_list k) 123 (λ n. go (opened_object (in_list [] ∷ k))) (λ at. ap (step_opened_list false at k 123) kind_of-object_opens)

bracket_due : (k : List Frame) → Eats false (due_state k) (91 ∷ []) (λ n. go (opened_list k)) Anything
bracket_due [] = list_opens []
bracket_due (in_list [] ∷ k) = opens_first_list k
bracket_due (in_list (v ∷ vs) ∷ k) = list_opens (in_list (v ∷ vs) ∷ k)
bracket_due (in_object names vs ∷ k) = list_opens (in_object names vs ∷ k)

brace_due : (k : List Frame) → Eats false (due_state k) (123 ∷ []) (λ n. go (opened_object k)) Anything
brace_due [] = object_opens []
brace_due (in_list [] ∷ k) = opens_first_object k
brace_due (in_list (v ∷ vs) ∷ k) = object_opens (in_list (v ∷ vs) ∷ k)
brace_due (in_object names vs ∷ k) = object_opens (in_object names vs ∷ k)

-- ---- objects

-- a state in which a name may begin, behind these members
pub record NamePlace (s : State) (names : List (List ℕ)) (vs : List Json) (k : List Frame) : Type 0 where
  pub skips : SkipsBlanks false s
  pub quote : Eats false s (34 ∷ []) (λ m. go (in_text [] None between (as_name names vs (m - 1)) k)) Anything

first_place : (k : List Frame) → NamePlace (opened_object k) [] [] k
first_place k = record { skips = skips_opened_object false k; quote = quote_of_first false k }

next_place : (names : List (List ℕ)) (vs : List Json) (k : List Frame) → NamePlace (name_due names vs k) names vs k
next_place names vs k = record { skips = skips_name_due false names vs k; quote = quote_of_name false names vs k }

-- a name and its colon
name_colon : {X : Texts} (s : State) (names : List (List ℕ)) (vs : List Json) (k : List Frame) (n t : List ℕ) (next : ℕ → Step) → NamePlace s names vs k → (j : Joined Blanks (Joined (IsText n) (Joined Blanks (Joined (Byte 58) X))) t)
    → Eats false (due (in_object (names ++ n ∷ []) vs ∷ k)) j.second.second.second.back next Anything → Eats false s t next Anything
name_colon s names vs k n t next place j more =
    let c : State = colon_due names vs n k in
    let inside : State = due (in_object (names ++ n ∷ []) vs ∷ k) in
    let w = j.second in
    let x = w.second in
    let y = x.second in
    let colon = seq c inside x.back next y (byte_is c 58 y.front (λ m. go inside) y.first (colon_in false names vs n k)) more in
    let blanks = seq c c w.back next x (eats_blanks false c x.front (skips_colon_due false names vs n k) x.first) colon in
    let name = seq s c j.back next w (name_read false s names vs k n w.front place.quote refl w.first) blanks in
    seq s s t next j (eats_blanks false s j.front place.skips j.first) name

-- a member and its comma
member_comma : {X : Texts} (s : State) (names : List (List ℕ)) (vs : List Json) (k : List Frame) (n : List ℕ) (v : Json) (t : List ℕ) (next : ℕ → Step) → NamePlace s names vs k
    → (j : Joined Blanks (Joined (IsText n) (Joined Blanks (Joined (Byte 58) (Joined Blanks (Joined (IsValue v) (Joined Blanks (Joined (Byte 44) X))))))) t)
    → Eats false (name_due (names ++ n ∷ []) (vs ++ v ∷ []) k) j.second.second.second.second.second.second.second.back next Anything → Eats false s t next Anything
member_comma s names vs k n v t next place j more =
    let inside : State = due (in_object (names ++ n ∷ []) vs ∷ k) in
    let b = j.second.second.second.second in
    let value = value_comma (in_object (names ++ n ∷ []) vs) k v (name_due (names ++ n ∷ []) (vs ++ v ∷ []) k) b.back next b.second (comma_in_object false v (names ++ n ∷ []) vs k) more in
    name_colon s names vs k n t next place j (seq inside inside j.second.second.second.back next b (eats_blanks false inside b.front (skips_due false (in_object (names ++ n ∷ []) vs ∷ k)) b.first) value)

abbrev MoreNames : List (List ℕ) → List Json → List (List ℕ) → List Json → List Frame → State
MoreNames ns us names vs k = name_due (ns ++ names) (us ++ vs) k

more_names : (names : List (List ℕ)) (vs : List Json) (ns : List (List ℕ)) (us : List Json) (k : List Frame) (t : List ℕ) → length names ≡ length vs → Named names vs t → Eats false (name_due ns us k) t (λ m. go (MoreNames ns us names vs k)) Anything
more_names [] [] ns us k t len h =
    eats_next false (name_due ns us k) t (λ m. go (name_due ns us k)) (λ m. go (MoreNames ns us [] [] k)) Anything (λ m. ap₂ (λ (x : List (List ℕ)) (y : List Json). go (name_due x y k)) (sym (append-nil ns)) (sym (append-nil us)))
    (eats_blanks false (name_due ns us k) t (skips_name_due false ns us k) h)
more_names [] (v ∷ vs) ns us k t len h = absurd h
more_names (n ∷ names) [] ns us k t len h = absurd (omega arith)
more_names (n ∷ names) (v ∷ vs) ns us k t len j =
    let rest = j.second.second.second.second.second.second.second in
    let more = more_names names vs (ns ++ n ∷ []) (us ++ v ∷ []) k rest.back (omega arith) rest.second in
    let same = eats_next false (name_due (ns ++ n ∷ []) (us ++ v ∷ []) k) rest.back (λ m. go (MoreNames (ns ++ n ∷ []) (us ++ v ∷ []) names vs k)) (λ m. go (MoreNames ns us (n ∷ names) (v ∷ vs) k)) Anything
    (λ m. ap₂ (λ (x : List (List ℕ)) (y : List Json). go (name_due x y k)) (append_assoc ns (n ∷ []) names) (append_assoc us (v ∷ []) vs)) more in
    member_comma (name_due ns us k) ns us k n v t (λ m. go (MoreNames ns us (n ∷ names) (v ∷ vs) k)) (next_place ns us k) j same

abbrev MoreDue : List (List ℕ) → List Json → List (List ℕ) → List Json → List Frame → State
MoreDue ns us names vs k = due (in_object (ns ++ names) (us ++ vs) ∷ k)

named_due : (names : List (List ℕ)) (vs : List Json) (s : State) (ns : List (List ℕ)) (us : List Json) (k : List Frame) (t : List ℕ) → NamePlace s ns us k → length names ≡ length vs + 1 → Named names vs t → Eats false s t (λ m. go (MoreDue ns us names vs k)) Anything
named_due [] vs s ns us k t place len h = absurd (omega arith)
named_due (n ∷ []) [] s ns us k t place len j =
    let inside : State = due (in_object (ns ++ n ∷ []) us ∷ k) in
    let y = j.second.second.second in
    name_colon s ns us k n t (λ m. go (MoreDue ns us (n ∷ []) [] k)) place j
    (eats_next false inside y.back (λ m. go inside) (λ m. go (MoreDue ns us (n ∷ []) [] k)) Anything (λ m. ap (λ (x : List Json). go (due (in_object (ns ++ n ∷ []) x ∷ k))) (sym (append-nil us)))
    (eats_blanks false inside y.back (skips_due false (in_object (ns ++ n ∷ []) us ∷ k)) y.second))
named_due (n ∷ m ∷ names) [] s ns us k t place len h = absurd h
named_due (n ∷ names) (v ∷ vs) s ns us k t place len j =
    let rest = j.second.second.second.second.second.second.second in
    let ns' : List (List ℕ) = ns ++ n ∷ [] in
    let us' : List Json = us ++ v ∷ [] in
    let more = named_due names vs (name_due ns' us' k) ns' us' k rest.back (next_place ns' us' k) (omega arith) rest.second in
    let same = eats_next false (name_due ns' us' k) rest.back (λ m. go (MoreDue ns' us' names vs k)) (λ m. go (MoreDue ns us (n ∷ names) (v ∷ vs) k)) Anything
    (λ m. ap₂ (λ (x : List (List ℕ)) (y : List Json). go (due (in_object x y ∷ k))) (append_assoc ns (n ∷ []) names) (append_assoc us (v ∷ []) vs)) more in
    member_comma s ns us k n v t (λ m. go (MoreDue ns us (n ∷ names) (v ∷ vs) k)) place j same

-- ---- any place

pub due_eaten : (k : List Frame) (t : List ℕ) → Due k t → Eats false (due []) t (λ n. go (due_state k)) Anything
due_eaten [] t h = eats_blanks false (due []) t (skips_due false []) h
due_eaten (in_list vs ∷ k) t j =
    let b = j.second in
    let begun = seq (due_state k) (opened_list k) j.back (λ n. go (due_state (in_list vs ∷ k))) b (byte_is (due_state k) 91 b.front (λ n. go (opened_list k)) b.first (bracket_due k)) (list_begun vs k b.back b.second) in
    seq (due []) (due_state k) t (λ n. go (due_state (in_list vs ∷ k))) j (due_eaten k j.front j.first) begun
due_eaten (in_object names vs ∷ k) t j =
    let b = j.second.1 in
    let begun = seq (due_state k) (opened_object k) j.back (λ n. go (due (in_object names vs ∷ k))) b (byte_is (due_state k) 123 b.front (λ n. go (opened_object k)) b.first (brace_due k))
    (named_due names vs (opened_object k) [] [] k b.back (first_place k) j.second.0 b.second) in
    seq (due []) (due_state k) t (λ n. go (due (in_object names vs ∷ k))) j (due_eaten k j.front j.first) begun

-- a name behind these members
pub name_eaten : (n : List ℕ) (names : List (List ℕ)) (v : Json) (vs : List Json) (k : List Frame) (t : List ℕ) → NameDue (n ∷ names) (v ∷ vs) k t → Eats false (due []) t (λ m. go (name_due (n ∷ names) (v ∷ vs) k)) Anything
name_eaten n names v vs k t h =
    let j = h.1 in
    let b = j.second in
    let c = b.second in
    let rest = c.second.second.second.second.second.second.second in
    let members = member_comma (opened_object k) [] [] k n v b.back (λ m. go (name_due (n ∷ names) (v ∷ vs) k)) (first_place k) c (more_names names vs (n ∷ []) (v ∷ []) k rest.back (let l = h.0 in omega arith) rest.second) in
    let begun = seq (due_state k) (opened_object k) j.back (λ m. go (name_due (n ∷ names) (v ∷ vs) k)) b (byte_is (due_state k) 123 b.front (λ m. go (opened_object k)) b.first (brace_due k)) members in
    seq (due []) (due_state k) t (λ m. go (name_due (n ∷ names) (v ∷ vs) k)) j (due_eaten k j.front j.first) begun
