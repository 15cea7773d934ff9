-- What was read, at each state, is what the grammar has there.
use Rattle.std.proofs.Common.{◌≡◌, ℕ, ◌+◌, ◌<◌, Bool, true, false, cond, List, [], ◌∷◌, ◌++◌, length, Option, None, refl, ap, ◌∙◌, sym, subst, arith, append_assoc, ◌==◌, ◌⊎◌, inl, inr}
use Rattle.std.specs.Prelude.{◌&&◌}
use Rattle.std.proofs.lemmas.Bool.{eqb-true}
use Rattle.bt_json.specs.Json.{Json, number, text, list, object, no_items, no_members}
use Rattle.bt_json.specs.Stands.{items_of, members_of}
use Rattle.bt_json.specs.Grammar.{Texts, ◌▸◌, Byte, Blanks, is_blank, IsText, IsValue}
use Rattle.bt_json.specs.Places.{Frame, in_list, in_object, Due, NameDue}
use Rattle.bt_json.specs.Answers.{EndsBefore}
use Rattle.bt_json.specs.inner.Bytes.{kind_of, mark_of}
use Rattle.bt_json.specs.inner.Reading.{State, Step, go, stop, found, bad, deep, twice, step, Role, as_value, as_name, Place, between, InText, reads, closes, no_text, Numeral, numeral_value, InNumber, goes_on, ends, wrong, due, opened_list, behind, opened_object, name_due, colon_due, in_text, in_number, in_word, deliver, opens_level, has_name, finish_text, step_due, step_opened_list, step_behind, step_opened_object, step_name_due, step_colon_due, step_in_text, step_in_number, step_past, step_in_word, step_text, step_number}
use Rattle.bt_json.specs.declared.kind.Kind.{Kind}
use Rattle.bt_json.specs.declared.kind.Kind.TheVariants.{Blank, ListOpens, ListCloses, ObjectOpens, ObjectCloses, Comma, Colon, Quote, Minus, Digit, LetterT, LetterF, LetterN, Other}
use Rattle.bt_json.specs.declared.kind.Phase.{Phase}
use Rattle.bt_json.proofs.ByteKinds.{kind-Blank, kind-ListOpens, kind-ListCloses, kind-ObjectOpens, kind-ObjectCloses, kind-Comma, kind-Colon, kind-Quote, kind-Minus, kind-Digit, kind-LetterT, kind-LetterF, kind-LetterN}
use Rattle.bt_json.proofs.Joins.{join, extend, no_blanks, blanks_more, due_blank, name_due_blank, list_goes_on, list_closed, empty_list_closed, colon_stands, object_goes_on, object_closed, empty_object_closed}
use Rattle.bt_json.proofs.SoundNumbers.{Written, Onwards, written_step, mark_is, minus_first, digit_first}
use Rattle.bt_json.proofs.SoundTexts.{Half, TextOnwards, text_step, nothing_read}
use Rattle.bt_json.specs.declared.limits.TheConstants.{MOST_LEVELS}

-- the text before the opening quote of a text
abbrev pub Opening : Role → List Frame → Texts
Opening as_value k t = Due k t
Opening (as_name names vs from) k t = NameDue names vs k t × (length t ≡ from)

abbrev pub NeverNumber : Json → Type 0
NeverNumber v = (rest : List ℕ) → EndsBefore v rest

-- a word, less these letters
abbrev pub WordFront : List ℕ → Json → Texts
WordFront left v t = NeverNumber v × (0 < length left) × IsValue v (t ++ left)

-- what the text is that leads to a state
abbrev pub Reached : State → Texts
Reached (due k) p = Due k p
Reached (opened_list k) p = (Due k ▸ (Byte 91 ▸ Blanks)) p
Reached (behind v f k) p = (Due (f ∷ k) ▸ (IsValue v ▸ Blanks)) p
Reached (opened_object k) p = (Due k ▸ (Byte 123 ▸ Blanks)) p
Reached (name_due names vs k) p = NameDue names vs k p
Reached (colon_due names vs n k) p = (NameDue names vs k ▸ (IsText n ▸ Blanks)) p
Reached (in_text out high place role k) p = (Opening role k ▸ (Byte 34 ▸ Half out high place)) p
Reached (in_number phase n k) p = (Due k ▸ Written phase n) p
Reached (in_word left v k) p = (Due k ▸ WordFront left v) p

-- a name that its object has already, up to its closing quote
pub record NameTwice (from : ℕ) (t : List ℕ) : Type 0 where
  pub names : List (List ℕ)
  pub values : List Json
  pub frames : List Frame
  pub name : List ℕ
  pub front : List ℕ
  pub spelling : List ℕ
  pub due_name : NameDue names values frames front
  pub place : length front ≡ from
  pub spelled : IsText name spelling
  pub whole : t ≡ front ++ spelling
  pub there : has_name names name ≡ true

pub record DeepThere (b : ℕ) (p : List ℕ) : Type 0 where
  pub frames : List Frame
  pub levels : length frames ≡ MOST_LEVELS
  pub due_value : Due frames p
  pub opens : (b ≡ 91) ⊎ (b ≡ 123)

-- the value ended with the byte, or before it
abbrev pub FoundThere : ℕ → ℕ → List ℕ → Json → ℕ → Type 0
FoundThere at b p v n = ((n ≡ at + 1) × (Blanks ▸ IsValue v) (p ++ b ∷ []) × NeverNumber v) ⊎ ((n ≡ at) × (Blanks ▸ IsValue v) p × ((rest : List ℕ) → EndsBefore v (b ∷ rest)))

-- what a step over the byte b tells, behind the text p
abbrev pub Good : ℕ → ℕ → List ℕ → Step → Type 0
Good at b p (go s) = Reached s (p ++ b ∷ [])
Good at b p (stop (found v n)) = FoundThere at b p v n
Good at b p (stop (bad n)) = n ≡ at
Good at b p (stop (deep n)) = (n ≡ at) × DeepThere b p
Good at b p (stop (twice from n)) = (n ≡ at) × NameTwice from (p ++ b ∷ [])

chosen : (x : Bool) (a c : Step) (at b : ℕ) (p : List ℕ) → (x ≡ true → Good at b p a) → (x ≡ false → Good at b p c) → Good at b p (cond x a c)
chosen true a c at b p f g = f refl
chosen false a c at b p f g = g refl

delivered : (v : Json) (k : List Frame) (at b : ℕ) (p : List ℕ) → NeverNumber v → (Due k ▸ IsValue v) (p ++ b ∷ []) → Good at b p (deliver v k (at + 1))
delivered v [] at b p never j = inl (refl, j, never)
delivered v (f ∷ k) at b p never j = no_blanks (p ++ b ∷ []) j

-- ---- values

both_true : (x y : Bool) → (x && y) ≡ true → (x ≡ true) × (y ≡ true)
both_true true y e = (refl, e)
both_true false y e = absurd cc

level_opens : (strict : Bool) (k : List Frame) (at b : ℕ) (p : List ℕ) (inside : State) → (b ≡ 91) ⊎ (b ≡ 123) → Due k p → Reached inside (p ++ b ∷ []) → Good at b p (opens_level strict k at inside)
level_opens strict k at b p inside bracket h r =
    chosen (strict && (length k == MOST_LEVELS)) (stop (deep at)) (go inside) at b p
    (λ e. let t = both_true strict (length k == MOST_LEVELS) e in (refl, record { frames = k; levels = eqb-true (length k) MOST_LEVELS t.1; due_value = h; opens = bracket })) (λ e. r)

alone_first : (c b : ℕ) → b ≡ c → (Byte c ▸ Blanks) (b ∷ [])
alone_first c b e = record { front = b ∷ []; back = []; first = ap (λ x. x ∷ []) e; second = tt; whole = refl }

due_step : (strict : Bool) (at : ℕ) (k : List Frame) (b : ℕ) (p : List ℕ) (kind : Kind) → kind_of b ≡ kind → Due k p → Good at b p (step_due strict at k b kind)
due_step strict at k b p Blank e h = due_blank b k p (kind-Blank b e) h
due_step strict at k b p ListOpens e h = let c = kind-ListOpens b e in level_opens strict k at b p (opened_list k) (inl c) h (join p (b ∷ []) h (alone_first 91 b c))
due_step strict at k b p ObjectOpens e h = let c = kind-ObjectOpens b e in level_opens strict k at b p (opened_object k) (inr c) h (join p (b ∷ []) h (alone_first 123 b c))
due_step strict at k b p Quote e h = join p (b ∷ []) h (record { front = b ∷ []; back = []; first = ap (λ x. x ∷ []) (kind-Quote b e); second = nothing_read; whole = refl })
due_step strict at k b p Minus e h = join p (b ∷ []) h (minus_first b (kind-Minus b e))
due_step strict at k b p Digit e h = let d = kind-Digit b e in join p (b ∷ []) h (digit_first b d.0 d.1)
due_step strict at k b p LetterT e h = join p (b ∷ []) h ((λ rest. tt), omega arith, ap (λ x. x ∷ 114 ∷ 117 ∷ 101 ∷ []) (kind-LetterT b e))
due_step strict at k b p LetterF e h = join p (b ∷ []) h ((λ rest. tt), omega arith, ap (λ x. x ∷ 97 ∷ 108 ∷ 115 ∷ 101 ∷ []) (kind-LetterF b e))
due_step strict at k b p LetterN e h = join p (b ∷ []) h ((λ rest. tt), omega arith, ap (λ x. x ∷ 117 ∷ 108 ∷ 108 ∷ []) (kind-LetterN b e))
due_step strict at k b p kind e h = refl

blank_behind : {A B : Texts} (b : ℕ) (p : List ℕ) → is_blank b ≡ true → (A ▸ (B ▸ Blanks)) p → (A ▸ (B ▸ Blanks)) (p ++ b ∷ [])
blank_behind b p e j = extend (b ∷ []) p (λ u. extend (b ∷ []) u (λ u. blanks_more b u e)) j

opened_list_step : (strict : Bool) (at : ℕ) (k : List Frame) (b : ℕ) (p : List ℕ) (kind : Kind) → kind_of b ≡ kind → (Due k ▸ (Byte 91 ▸ Blanks)) p → Good at b p (step_opened_list strict at k b kind)
opened_list_step strict at k b p Blank e h = blank_behind b p (kind-Blank b e) h
opened_list_step strict at k b p ListCloses e h =
    delivered (list no_items) k at b p (λ rest. tt) (subst (λ x. (Due k ▸ IsValue (list no_items)) (p ++ x ∷ [])) (sym (kind-ListCloses b e)) (empty_list_closed k p h))
opened_list_step strict at k b p ObjectCloses e h = refl
opened_list_step strict at k b p Comma e h = refl
opened_list_step strict at k b p Colon e h = refl
opened_list_step strict at k b p Other e h = refl
opened_list_step strict at k b p kind e h = due_step strict at (in_list [] ∷ k) b p kind e h

behind_step : (at : ℕ) (v : Json) (f : Frame) (k : List Frame) (b : ℕ) (p : List ℕ) (kind : Kind) → kind_of b ≡ kind → (Due (f ∷ k) ▸ (IsValue v ▸ Blanks)) p → Good at b p (step_behind at v f k kind)
behind_step at v (in_list vs) k b p Blank e h = blank_behind b p (kind-Blank b e) h
behind_step at v (in_object names vs) k b p Blank e h = blank_behind b p (kind-Blank b e) h
behind_step at v (in_list vs) k b p Comma e h = subst (λ x. Due (in_list (vs ++ v ∷ []) ∷ k) (p ++ x ∷ [])) (sym (kind-Comma b e)) (list_goes_on vs v k p h)
behind_step at v (in_list vs) k b p ListCloses e h =
    delivered (list (items_of (vs ++ v ∷ []))) k at b p (λ rest. tt) (subst (λ x. (Due k ▸ IsValue (list (items_of (vs ++ v ∷ [])))) (p ++ x ∷ [])) (sym (kind-ListCloses b e)) (list_closed vs v k p h))
behind_step at v (in_object names vs) k b p Comma e h = subst (λ x. NameDue names (vs ++ v ∷ []) k (p ++ x ∷ [])) (sym (kind-Comma b e)) (object_goes_on names vs v k p h)
behind_step at v (in_object names vs) k b p ObjectCloses e h =
    delivered (object (members_of names (vs ++ v ∷ []))) k at b p (λ rest. tt) (subst (λ x. (Due k ▸ IsValue (object (members_of names (vs ++ v ∷ [])))) (p ++ x ∷ [])) (sym (kind-ObjectCloses b e)) (object_closed names vs v k p h))
behind_step at v (in_list vs) k b p kind e h = refl
behind_step at v (in_object names vs) k b p kind e h = refl

-- ---- names

name_opens : (names : List (List ℕ)) (vs : List Json) (k : List Frame) (at b : ℕ) (p : List ℕ) → at ≡ length p → b ≡ 34 → NameDue names vs k p → (Opening (as_name names vs at) k ▸ (Byte 34 ▸ Half [] None between)) (p ++ b ∷ [])
name_opens names vs k at b p len e h = join p (b ∷ []) (h, sym len) (record { front = b ∷ []; back = []; first = ap (λ x. x ∷ []) e; second = nothing_read; whole = refl })

opened_object_step : (at : ℕ) (k : List Frame) (b : ℕ) (p : List ℕ) (kind : Kind) → at ≡ length p → kind_of b ≡ kind → (Due k ▸ (Byte 123 ▸ Blanks)) p → Good at b p (step_opened_object at k kind)
opened_object_step at k b p Blank len e h = blank_behind b p (kind-Blank b e) h
opened_object_step at k b p ObjectCloses len e h =
    delivered (object no_members) k at b p (λ rest. tt) (subst (λ x. (Due k ▸ IsValue (object no_members)) (p ++ x ∷ [])) (sym (kind-ObjectCloses b e)) (empty_object_closed k p h))
opened_object_step at k b p Quote len e h = name_opens [] [] k at b p len (kind-Quote b e) (refl, h)
opened_object_step at k b p kind len e h = refl

name_due_step : (at : ℕ) (names : List (List ℕ)) (vs : List Json) (k : List Frame) (b : ℕ) (p : List ℕ) (kind : Kind) → at ≡ length p → kind_of b ≡ kind → NameDue names vs k p → Good at b p (step_name_due at names vs k kind)
name_due_step at names vs k b p Blank len e h = name_due_blank b names vs k p (kind-Blank b e) h
name_due_step at names vs k b p Quote len e h = name_opens names vs k at b p len (kind-Quote b e) h
name_due_step at names vs k b p kind len e h = refl

colon_due_step : (at : ℕ) (names : List (List ℕ)) (vs : List Json) (n : List ℕ) (k : List Frame) (b : ℕ) (p : List ℕ) (kind : Kind) → kind_of b ≡ kind → (NameDue names vs k ▸ (IsText n ▸ Blanks)) p → Good at b p (step_colon_due at names vs n k kind)
colon_due_step at names vs n k b p Blank e h = blank_behind b p (kind-Blank b e) h
colon_due_step at names vs n k b p Colon e h = subst (λ x. Due (in_object (names ++ n ∷ []) vs ∷ k) (p ++ x ∷ [])) (sym (kind-Colon b e)) (colon_stands names vs n k p h)
colon_due_step at names vs n k b p kind e h = refl

-- ---- texts

text_finished : (strict : Bool) (at b : ℕ) (bytes : List ℕ) (role : Role) (k : List Frame) (p : List ℕ) → (Opening role k ▸ IsText bytes) (p ++ b ∷ []) → Good at b p (finish_text strict at bytes role k)
text_finished strict at b bytes as_value k p j = delivered (text bytes) k at b p (λ rest. tt) j
text_finished strict at b bytes (as_name names vs from) k p j =
    chosen (strict && has_name names bytes) (stop (twice from at)) (go (colon_due names vs bytes k)) at b p
    (λ e. (refl, record { names = names; values = vs; frames = k; name = bytes; front = j.front; spelling = j.back; due_name = j.first.0; place = j.first.1; spelled = j.second; whole = j.whole; there = (both_true strict (has_name names bytes) e).1 }))
    (λ e. no_blanks (p ++ b ∷ []) (record { front = j.front; back = j.back; first = j.first.0; second = j.second; whole = j.whole }))

in_text_step : (strict : Bool) (at b : ℕ) (out : List ℕ) (high : Option ℕ) (place : Place) (role : Role) (k : List Frame) (p : List ℕ) (x : InText) (j : (Opening role k ▸ (Byte 34 ▸ Half out high place)) p) → TextOnwards b j.second.back x → Good at b p (step_in_text strict at role k x)
in_text_step strict at b out high place role k p (reads o h q) j t =
    record { front = j.front; back = j.back ++ b ∷ []; first = j.first; second = record { front = j.second.front; back = j.second.back ++ b ∷ []; first = j.second.first; second = t; whole = ap (λ (x : List ℕ). x ++ b ∷ []) j.second.whole ∙ append_assoc j.second.front j.second.back (b ∷ []) }; whole = ap (λ (x : List ℕ). x ++ b ∷ []) j.whole ∙ append_assoc j.front j.back (b ∷ []) }
in_text_step strict at b out high place role k p (closes bytes) j t =
    let spelled : IsText bytes (j.back ++ b ∷ []) = record {
      pieces = t.1;
      spelled = record {
        front = j.second.front;
        back = j.second.back ++ b ∷ [];
        first = j.second.first;
        second = join j.second.back (b ∷ []) t.2 (ap (λ x. x ∷ []) t.0);
        whole = ap (λ (x : List ℕ). x ++ b ∷ []) j.second.whole ∙ append_assoc j.second.front j.second.back (b ∷ []);
      };
      value = t.3;
    } in
    text_finished strict at b bytes role k p (record { front = j.front; back = j.back ++ b ∷ []; first = j.first; second = spelled; whole = ap (λ (x : List ℕ). x ++ b ∷ []) j.whole ∙ append_assoc j.front j.back (b ∷ []) })
in_text_step strict at b out high place role k p no_text j t = refl

-- ---- numbers

past_step : (at b : ℕ) (v : Json) (k : List Frame) (p : List ℕ) → ((rest : List ℕ) → EndsBefore v (b ∷ rest)) → (Due k ▸ IsValue v) p → Good at b p (step_past at v k (kind_of b))
past_step at b v [] p e j = inr (refl, j, e)
past_step at b v (f ∷ k) p e j = behind_step at v f k b p (kind_of b) refl (no_blanks p j)

in_number_step : (at b : ℕ) (phase : Phase) (n : Numeral) (k : List Frame) (p : List ℕ) (x : InNumber) (j : (Due k ▸ Written phase n) p) → Onwards b j.back x → Good at b p (step_in_number at k (kind_of b) x)
in_number_step at b phase n k p (goes_on q m) j w = record { front = j.front; back = j.back ++ b ∷ []; first = j.first; second = w; whole = ap (λ (x : List ℕ). x ++ b ∷ []) j.whole ∙ append_assoc j.front j.back (b ∷ []) }
in_number_step at b phase n k p (ends m) j w = past_step at b (number (numeral_value m)) k p (λ rest. w.1) (record { front = j.front; back = j.back; first = j.first; second = w.0; whole = j.whole })
in_number_step at b phase n k p wrong j w = refl

-- ---- words

in_word_step : (at b : ℕ) (left : List ℕ) (v : Json) (k : List Frame) (p : List ℕ) → (Due k ▸ WordFront left v) p → Good at b p (step_in_word at left v k b)
in_word_step at b [] v k p j = refl
in_word_step at b (c ∷ []) v k p j =
    chosen (b == c) (deliver v k (at + 1)) (stop (bad at)) at b p
    (λ e. delivered v k at b p j.second.0 (extend (b ∷ []) p (λ u w. subst (λ x. IsValue v (u ++ x ∷ [])) (sym (eqb-true b c e)) w.2) j)) (λ e. refl)
in_word_step at b (c ∷ d ∷ left) v k p j =
    chosen (b == c) (go (in_word (d ∷ left) v k)) (stop (bad at)) at b p
    (λ e. extend (b ∷ []) p (λ u w. (w.0, omega arith, subst (IsValue v) (sym (append_assoc u (b ∷ []) (d ∷ left))) (subst (λ x. IsValue v (u ++ x ∷ d ∷ left)) (sym (eqb-true b c e)) w.2))) j) (λ e. refl)

-- ---- any state

pub sound_step : (strict : Bool) (at b : ℕ) (s : State) (p : List ℕ) → at ≡ length p → Reached s p → Good at b p (step strict at b s)
unfolding step
sound_step strict at b (due k) p len h = due_step strict at k b p (kind_of b) refl h
sound_step strict at b (opened_list k) p len h = opened_list_step strict at k b p (kind_of b) refl h
sound_step strict at b (behind v f k) p len h = behind_step at v f k b p (kind_of b) refl h
sound_step strict at b (opened_object k) p len h = opened_object_step at k b p (kind_of b) len refl h
sound_step strict at b (name_due names vs k) p len h = name_due_step at names vs k b p (kind_of b) len refl h
sound_step strict at b (colon_due names vs n k) p len h = colon_due_step at names vs n k b p (kind_of b) refl h
sound_step strict at b (in_text out high place role k) p len h = in_text_step strict at b out high place role k p (step_text out high place b) h (text_step out high place b h.second.back h.second.second)
sound_step strict at b (in_number phase n k) p len h = in_number_step at b phase n k p (step_number phase n (mark_of b)) h (written_step phase n h.back b (mark_of b) (mark_is b) h.second)
sound_step strict at b (in_word left v k) p len h = in_word_step at b left v k p h
