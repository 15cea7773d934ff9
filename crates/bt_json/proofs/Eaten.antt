-- Reading over a value that the grammar writes.
use Rattle.std.proofs.Common.{◌≡◌, ℕ, suc, ◌+◌, ◌-◌, ◌<◌, ◌≤◌, Bool, true, false, cond, List, [], ◌∷◌, ◌++◌, length, None, refl, ap, ap₂, ◌∙◌, sym, subst, arith, append_assoc, ◌==◌, ◌≢◌, ◌⊎◌, inl, inr, max}
use Rattle.std.specs.Prelude.{◌&&◌, Contains}
use Rattle.std.specs.Str.{bytes_eq}
use Rattle.std.proofs.lemmas.List.{append-nil, length-append}
use Rattle.std.proofs.lemmas.Bool.{false_from_ne_true}
use Rattle.std.proofs.lemmas.Bool.Decides.{nat_tests}
use Rattle.std.proofs.lemmas.Map.Views.{Contains-from_any}
use Rattle.std.proofs.lemmas.Slice.Eq.{bytes_eq-Decides}
use Rattle.bt_json.specs.Json.{Number, Json, null, boolean, number, text, list, object, Items, no_items, item, Members, no_members, member}
use Rattle.bt_json.specs.Stands.{items_of, members_of}
use Rattle.bt_json.specs.Grammar.{Joined, Byte, Blanks, is_blank, IsNumber, Sign, Whole, IsText, IsValue, MoreItems, MoreMembers}
use Rattle.bt_json.specs.Answers.{depth_of, items_depth, members_depth, HasDistinctNames, ItemsHaveDistinctNames, AreNew, is_number_byte, EndsBefore}
use Rattle.bt_json.specs.inner.Bytes.{kind_of}
use Rattle.bt_json.specs.inner.Reading.{State, Step, go, stop, deep, twice, step, Frame, in_list, in_object, as_value, as_name, due, opened_list, behind, opened_object, name_due, colon_due, in_text, between, in_word, deliver, opens_level, has_name, finish_text, step_due, step_opened_list, step_behind, step_opened_object, step_name_due, step_colon_due}
use Rattle.bt_json.specs.declared.kind.Kind.{Kind}
use Rattle.bt_json.specs.declared.kind.Kind.TheVariants.{Blank, ListOpens, ListCloses, ObjectOpens, Quote, Minus, Digit, LetterT, LetterF, LetterN}
use Rattle.bt_json.proofs.Blanks.{skips_due, skips_opened_list, skips_behind, skips_opened_object, skips_name_due, skips_colon_due, opened_other}
use Rattle.bt_json.proofs.ByteKinds.{kind_of-list_opens, kind_of-list_closes, kind_of-object_opens, kind_of-object_closes, kind_of-comma, kind_of-colon, kind_of-quote, kind_of-minus, kind_of-t, kind_of-f, kind_of-n}
use Rattle.bt_json.proofs.Eating.{after, walk, walk_cons, Eats, eats_byte, eats_both, eats_then, eats_same, eats_next, Anything, eats_blanks, eats_word}
use Rattle.bt_json.proofs.EatenNumbers.{eats_number}
use Rattle.bt_json.proofs.EatenTexts.{eats_text}
use Rattle.bt_json.specs.declared.limits.TheConstants.{MOST_LEVELS}

-- ---- blanks

-- ---- the bytes between values

module _ (strict : Bool) where
  pub comma_in_list : (v : Json) (vs : List Json) (k : List Frame) → Eats strict (behind v (in_list vs) k) (44 ∷ []) (λ n. go (due (in_list (vs ++ v ∷ []) ∷ k))) Anything
  unfolding step
  comma_in_list v vs k = eats_byte strict _ 44 _ (λ at. ap (step_behind at v (in_list vs) k) kind_of-comma)

  pub list_end : (v : Json) (vs : List Json) (k : List Frame) → Eats strict (behind v (in_list vs) k) (93 ∷ []) (deliver (list (items_of (vs ++ v ∷ []))) k) Anything
  unfolding step
  list_end v vs k = eats_byte strict _ 93 _ (λ at. ap (step_behind at v (in_list vs) k) kind_of-list_closes)

  pub empty_list : (k : List Frame) → Eats strict (opened_list k) (93 ∷ []) (deliver (list no_items) k) Anything
  unfolding step
  empty_list k = eats_byte strict _ 93 _ (λ at. ap (step_opened_list strict at k 93) kind_of-list_closes)

  pub comma_in_object : (v : Json) (names : List (List ℕ)) (vs : List Json) (k : List Frame) → Eats strict (behind v (in_object names vs) k) (44 ∷ []) (λ n. go (name_due names (vs ++ v ∷ []) k)) Anything
  unfolding step
  comma_in_object v names vs k = eats_byte strict _ 44 _ (λ at. ap (step_behind at v (in_object names vs) k) kind_of-comma)

  pub object_end : (v : Json) (names : List (List ℕ)) (vs : List Json) (k : List Frame) → Eats strict (behind v (in_object names vs) k) (125 ∷ []) (deliver (object (members_of names (vs ++ v ∷ []))) k) Anything
  unfolding step
  object_end v names vs k = eats_byte strict _ 125 _ (λ at. ap (step_behind at v (in_object names vs) k) kind_of-object_closes)

  pub empty_object : (k : List Frame) → Eats strict (opened_object k) (125 ∷ []) (deliver (object no_members) k) Anything
  unfolding step
  empty_object k = eats_byte strict _ 125 _ (λ at. ap (step_opened_object at k) kind_of-object_closes)

  pub colon_in : (names : List (List ℕ)) (vs : List Json) (n : List ℕ) (k : List Frame) → Eats strict (colon_due names vs n k) (58 ∷ []) (λ m. go (due (in_object (names ++ n ∷ []) vs ∷ k))) Anything
  unfolding step
  colon_in names vs n k = eats_byte strict _ 58 _ (λ at. ap (step_colon_due at names vs n k) kind_of-colon)

  quote_of_value : (k : List Frame) → Eats strict (due k) (34 ∷ []) (λ n. go (in_text [] None between as_value k)) Anything
  unfolding step
  quote_of_value k = eats_byte strict _ 34 _ (λ at. ap (step_due strict at k 34) kind_of-quote)

  pub quote_of_name : (names : List (List ℕ)) (vs : List Json) (k : List Frame) → Eats strict (name_due names vs k) (34 ∷ []) (λ n. go (in_text [] None between (as_name names vs (n - 1)) k)) Anything
  unfolding step
  quote_of_name names vs k = eats_byte strict _ 34 _ (λ at. let n : at ≡ at + 1 - 1 = omega arith in ap (step_name_due at names vs k) kind_of-quote ∙ ap (λ m. go (in_text [] None between (as_name names vs m) k)) n)

  pub quote_of_first : (k : List Frame) → Eats strict (opened_object k) (34 ∷ []) (λ n. go (in_text [] None between (as_name [] [] (n - 1)) k)) Anything
  unfolding step
  quote_of_first k = eats_byte strict _ 34 _ (λ at. let n : at ≡ at + 1 - 1 = omega arith in ap (step_opened_object at k) kind_of-quote ∙ ap (λ m. go (in_text [] None between (as_name [] [] m) k)) n)

  -- ---- words

  word_in : (v : Json) (k : List Frame) (b c : ℕ) (left : List ℕ) → ((at : ℕ) → step strict at b (due k) ≡ go (in_word (c ∷ left) v k)) → Eats strict (due k) (b ∷ c ∷ left) (deliver v k) Anything
  word_in v k b c left e = eats_then strict (due k) (in_word (c ∷ left) v k) (b ∷ []) (c ∷ left) (deliver v k) Anything (eats_byte strict (due k) b _ e) (eats_word strict c left v k)

  -- ---- texts

  -- a name that is new, from a quote on
  pub name_read : (s : State) (names : List (List ℕ)) (vs : List Json) (k : List Frame) (n t : List ℕ) → Eats strict s (34 ∷ []) (λ m. go (in_text [] None between (as_name names vs (m - 1)) k)) Anything
      → (strict && has_name names n) ≡ false → IsText n t → Eats strict s t (λ m. go (colon_due names vs n k)) Anything
  name_read s names vs k n t quote new x =
      eats_same strict s _ t _ Anything (sym (x.spelled.whole ∙ ap (λ (y : List ℕ). y ++ x.spelled.back) x.spelled.first))
      (eats_both strict s (λ m. in_text [] None between (as_name names vs (m - 1)) k) (34 ∷ []) x.spelled.back (λ m. go (colon_due names vs n k)) Anything Anything quote
      (λ m. eats_next strict _ x.spelled.back (λ y. finish_text strict (y - 1) n (as_name names vs (m - 1)) k) _ Anything (λ y. ap (λ b. cond b (stop (twice (m - 1) (y - 1))) (go (colon_due names vs n k))) new)
      (eats_text strict (as_name names vs (m - 1)) k n x.spelled.back x.pieces x.spelled.second x.value))
      (λ rest h. tt))

  pub text_read : (k : List Frame) (n t : List ℕ) → IsText n t → Eats strict (due k) t (deliver (text n) k) Anything
  text_read k n t x =
      eats_next strict (due k) t (λ m. deliver (text n) k m) (deliver (text n) k) Anything (λ m. refl) (eats_same strict (due k) _ t _ Anything (sym (x.spelled.whole ∙ ap (λ (y : List ℕ). y ++ x.spelled.back) x.spelled.first)) both)
    where
      closed : (at : ℕ) (rest : List ℕ) → walk strict at (in_text [] None between as_value k) (x.spelled.back ++ rest) ≡ after strict (at + length x.spelled.back) (deliver (text n) k (at + length x.spelled.back)) rest
      closed at rest =
          let e = (eats_text strict as_value k n x.spelled.back x.pieces x.spelled.second x.value).eats at rest tt in
          let some : 0 < length x.spelled.back = subst (λ l. 0 < length l) (sym (x.spelled.second.whole ∙ ap (λ (y : List ℕ). x.spelled.second.front ++ y) x.spelled.second.second)) (omega (arith, length-append x.spelled.second.front (34 ∷ []))) in
          let m : at + length x.spelled.back - 1 + 1 ≡ at + length x.spelled.back = omega arith in
          e ∙ ap (λ y. after strict (at + length x.spelled.back) (deliver (text n) k y) rest) m

      both : Eats strict (due k) ((34 ∷ []) ++ x.spelled.back) (deliver (text n) k) Anything
      both = eats_then strict (due k) (in_text [] None between as_value k) (34 ∷ []) x.spelled.back (deliver (text n) k) Anything (quote_of_value k) (record { eats = λ at rest h. closed at rest })

-- ---- the first byte of a value

-- it is no blank, and closes no list
pub record Fronts (t : List ℕ) : Type 0 where
  pub byte : ℕ
  pub rest : List ℕ
  pub whole : t ≡ byte ∷ rest
  pub blank : kind_of byte ≢ Blank
  pub closes : kind_of byte ≢ ListCloses

fronts : (t : List ℕ) (byte : ℕ) (rest : List ℕ) (kind : Kind) → t ≡ byte ∷ rest → kind_of byte ≡ kind → kind ≢ Blank → kind ≢ ListCloses → Fronts t
fronts t byte rest kind e k n m = record { byte = byte; rest = rest; whole = e; blank = λ h. n (sym k ∙ h); closes = λ h. m (sym k ∙ h) }

digit_fronts : (d : ℕ) → d < 10 → kind_of (d + 48) ≡ Digit
unfolding kind_of
digit_fronts d lt = grind (arith, nat_tests)

whole_fronts : (ds t : List ℕ) → Whole ds t → (d : ℕ) × (rest : List ℕ) × (d < 10) × (t ≡ (d + 48) ∷ rest)
whole_fronts [] t w = absurd w
whole_fronts (d ∷ []) t w = (d, [], w.0.0, w.1)
whole_fronts (d ∷ e ∷ ds) t w = (d, _, w.1.0.0, w.1.1)

number_fronts : (n : Number) (t : List ℕ) → IsNumber n t → Fronts t
number_fronts n t is = by n.negative is.spelled.front is.spelled.first is.spelled.whole
  where
    by : (b : Bool) (s : List ℕ) → Sign b s → t ≡ s ++ is.spelled.back → Fronts t
    by true s e w = fronts t 45 is.spelled.back Minus (w ∙ ap (λ (x : List ℕ). x ++ is.spelled.back) e) kind_of-minus (λ h. cc) (λ h. cc)
    by false s e w =
        let q = whole_fronts is.whole is.spelled.second.front is.spelled.second.first in
        fronts t (q.0 + 48) (q.1 ++ is.spelled.second.back) Digit (w ∙ ap (λ (x : List ℕ). x ++ is.spelled.back) e ∙ is.spelled.second.whole ∙ ap (λ (x : List ℕ). x ++ is.spelled.second.back) q.3) (digit_fronts q.0 q.2) (λ h. cc) (λ h. cc)

begins : {A : List ℕ → Type 0} (b : ℕ) (t : List ℕ) → (j : Joined (Byte b) A t) → t ≡ b ∷ j.back
begins b t j = j.whole ∙ ap (λ (x : List ℕ). x ++ j.back) j.first

pub value_fronts : (v : Json) (t : List ℕ) → IsValue v t → Fronts t
value_fronts null t e = fronts t 110 _ LetterN e kind_of-n (λ h. cc) (λ h. cc)
value_fronts (boolean true) t e = fronts t 116 _ LetterT e kind_of-t (λ h. cc) (λ h. cc)
value_fronts (boolean false) t e = fronts t 102 _ LetterF e kind_of-f (λ h. cc) (λ h. cc)
value_fronts (number n) t is = number_fronts n t is
value_fronts (text bytes) t x = fronts t 34 x.spelled.back Quote (begins 34 t x.spelled) kind_of-quote (λ h. cc) (λ h. cc)
value_fronts (list no_items) t j = fronts t 91 j.back ListOpens (begins 91 t j) kind_of-list_opens (λ h. cc) (λ h. cc)
value_fronts (list (item v rest)) t j = fronts t 91 j.back ListOpens (begins 91 t j) kind_of-list_opens (λ h. cc) (λ h. cc)
value_fronts (object no_members) t j = fronts t 123 j.back ObjectOpens (begins 123 t j) kind_of-object_opens (λ h. cc) (λ h. cc)
value_fronts (object (member n v rest)) t j = fronts t 123 j.back ObjectOpens (begins 123 t j) kind_of-object_opens (λ h. cc) (λ h. cc)

-- behind the bracket of a list, a value is read as where one is due
pub first_value : (strict : Bool) (k : List Frame) (t : List ℕ) (next : ℕ → Step) (Before : List ℕ → Type 0) → Fronts t → Eats strict (due (in_list [] ∷ k)) t next Before → Eats strict (opened_list k) t next Before
unfolding step
first_value strict k t next Before f e = record {
  eats = λ at rest h.
      let front : (s : State) → walk strict at s (t ++ rest) ≡ after strict (at + 1) (step strict at f.byte s) (f.rest ++ rest) = λ s. ap (λ (x : List ℕ). walk strict at s (x ++ rest)) f.whole ∙ walk_cons strict at s f.byte (f.rest ++ rest) in
      front (opened_list k) ∙ ap (λ s. after strict (at + 1) s (f.rest ++ rest)) (opened_other strict at k f.byte (kind_of f.byte) f.blank f.closes) ∙ sym (front (due (in_list [] ∷ k))) ∙ e.eats at rest h;
}

-- ---- what follows a value in a list or an object

not_in_number : (b : ℕ) → (is_blank b ≡ true) ⊎ ((b ≡ 44) ⊎ ((b ≡ 93) ⊎ (b ≡ 125))) → is_number_byte b ≡ false
not_in_number b (inl h) = grind (arith, nat_tests)
not_in_number b (inr (inl h)) = ap is_number_byte h
not_in_number b (inr (inr (inl h))) = ap is_number_byte h
not_in_number b (inr (inr (inr h))) = ap is_number_byte h

before_byte : (v : Json) (b : ℕ) (rest : List ℕ) → is_number_byte b ≡ false → EndsBefore v (b ∷ rest)
before_byte null b rest e = tt
before_byte (number n) b rest e = e
before_byte s b rest e = tt

-- blanks and one of these bytes
before_blanks : (v : Json) (w : List ℕ) (b : ℕ) (rest : List ℕ) → Blanks w → is_number_byte b ≡ false → EndsBefore v (w ++ b ∷ rest)
before_blanks v [] b rest h e = before_byte v b rest e
before_blanks v (c ∷ w) b rest h e = before_byte v c (w ++ b ∷ rest) (not_in_number c (inl h.0))

pub before_joined : {A : List ℕ → Type 0} (v : Json) (b : ℕ) (t rest : List ℕ) → is_number_byte b ≡ false → Joined Blanks (Joined (Byte b) A) t → EndsBefore v (t ++ rest)
before_joined v b t rest e j =
    subst (EndsBefore v) (sym (ap (λ (x : List ℕ). x ++ rest) (j.whole ∙ ap (λ (x : List ℕ). j.front ++ x) (begins b j.back j.second)) ∙ append_assoc j.front (b ∷ j.second.back) rest))
    (before_blanks v j.front b (j.second.back ++ rest) j.first e)

before_last : (v : Json) (b : ℕ) (t rest : List ℕ) → is_number_byte b ≡ false → Joined Blanks (Byte b) t → EndsBefore v (t ++ rest)
before_last v b t rest e j =
    subst (EndsBefore v) (sym (ap (λ (x : List ℕ). x ++ rest) (j.whole ∙ ap (λ (x : List ℕ). j.front ++ x) j.second) ∙ append_assoc j.front (b ∷ []) rest)) (before_blanks v j.front b rest j.first e)

before_more : (v : Json) (items : Items) (t rest : List ℕ) → MoreItems items t → EndsBefore v (t ++ rest)
before_more v no_items t rest j = before_last v 93 t rest refl j
before_more v (item w more) t rest j = before_joined v 44 t rest refl j

before_members : (v : Json) (all : Members) (t rest : List ℕ) → MoreMembers all t → EndsBefore v (t ++ rest)
before_members v no_members t rest j = before_last v 125 t rest refl j
before_members v (member n w more) t rest j = before_joined v 44 t rest refl j

-- ---- what strict reading allows

abbrev pub Allowed : Bool → ℕ → Json → Type 0
Allowed true depth v = (depth + depth_of v ≤ MOST_LEVELS) × HasDistinctNames v
Allowed false depth v = Unit {0}

abbrev pub ItemsAllowed : Bool → ℕ → Items → Type 0
ItemsAllowed true depth all = (depth + items_depth all ≤ MOST_LEVELS) × ItemsHaveDistinctNames all
ItemsAllowed false depth all = Unit {0}

abbrev pub MembersAllowed : Bool → ℕ → List (List ℕ) → Members → Type 0
MembersAllowed true depth names all = (depth + members_depth all ≤ MOST_LEVELS) × AreNew names all
MembersAllowed false depth names all = Unit {0}

first_allowed : (strict : Bool) (depth : ℕ) (v : Json) (rest : Items) → ItemsAllowed strict depth (item v rest) → Allowed strict depth v × ItemsAllowed strict depth rest
first_allowed true depth v rest a = ((let h = a.0 in omega arith, a.1.0), (let h = a.0 in omega arith, a.1.1))
first_allowed false depth v rest a = (tt, tt)

inside_list : (strict : Bool) (depth : ℕ) (items : Items) → Allowed strict depth (list items) → ItemsAllowed strict (suc depth) items
inside_list true depth items a = (let h = a.0 in omega arith, a.1)
inside_list false depth items a = tt

inside_object : (strict : Bool) (depth : ℕ) (all : Members) → Allowed strict depth (object all) → MembersAllowed strict (suc depth) [] all
inside_object true depth all a = (let h = a.0 in omega arith, a.1)
inside_object false depth all a = tt

same_bytes : (x y : List ℕ) → bytes_eq x y ≡ true → x ≡ y
same_bytes x y e = (bytes_eq-Decides x y).0 e

new_name : (names : List (List ℕ)) (n : List ℕ) → (Contains names n → ⊥) → has_name names n ≡ false
new_name names n none = false_from_ne_true _ (λ e. none (Contains-from_any same_bytes n names e))

first_member : (strict : Bool) (depth : ℕ) (names : List (List ℕ)) (n : List ℕ) (v : Json) (rest : Members) → MembersAllowed strict depth names (member n v rest)
    → ((strict && has_name names n) ≡ false) × Allowed strict depth v × MembersAllowed strict depth (names ++ n ∷ []) rest
first_member true depth names n v rest a = (new_name names n a.1.0, (let h = a.0 in omega arith, a.1.1), (let h = a.0 in omega arith, a.1.2))
first_member false depth names n v rest a = (refl, tt, tt)

opens_allowed : (strict : Bool) (k : List Frame) (at depth : ℕ) (inside : State) (v : Json) → Allowed strict (length k) v → depth_of v ≡ suc depth → opens_level strict k at inside ≡ go inside
opens_allowed true k at depth inside v a e = let h = a.0 in let t : (length k == MOST_LEVELS) ≡ false = grind (arith, nat_tests) in ap (λ b. cond b (stop (deep at)) (go inside)) t
opens_allowed false k at depth inside v a e = refl

-- ---- values

abbrev items_list : Items → List Json
items_list no_items = []
items_list (item v rest) = v ∷ items_list rest

abbrev pub names_in : Members → List (List ℕ)
names_in no_members = []
names_in (member n v rest) = n ∷ names_in rest

abbrev values_in : Members → List Json
values_in no_members = []
values_in (member n v rest) = v ∷ values_in rest

items_are : (items : Items) → items_of (items_list items) ≡ items
items_are no_items = refl
items_are (item v rest) = ap (item v) (items_are rest)

members_are : (members : Members) → members_of (names_in members) (values_in members) ≡ members
members_are no_members = refl
members_are (member n v rest) = ap (member n v) (members_are rest)

weaker : {strict : Bool} {s : State} {u : List ℕ} {next : ℕ → Step} (x : Json) → Eats strict s u next Anything → Eats strict s u next (EndsBefore x)
weaker x e = record { eats = λ at rest h. e.eats at rest tt }

-- a member behind its name, and the members behind it
member_tail : (strict : Bool) (k : List Frame) (n : List ℕ) (v : Json) (rest : Members) (names : List (List ℕ)) (vs : List Json) (t : List ℕ) (j : Joined Blanks (Joined (Byte 58) (Joined Blanks (Joined (IsValue v) (MoreMembers rest)))) t)
    → Eats strict (due (in_object (names ++ n ∷ []) vs ∷ k)) j.second.second.second.front (deliver v (in_object (names ++ n ∷ []) vs ∷ k)) (EndsBefore v)
    → Eats strict (behind v (in_object (names ++ n ∷ []) vs) k) j.second.second.second.back (deliver (object (members_of ((names ++ n ∷ []) ++ names_in rest) (vs ++ v ∷ values_in rest))) k) Anything
    → Eats strict (colon_due names vs n k) t (deliver (object (members_of (names ++ n ∷ names_in rest) (vs ++ v ∷ values_in rest))) k) Anything
member_tail strict k n v rest names vs t j value more =
    let s : State = colon_due names vs n k in
    let inside : List Frame = in_object (names ++ n ∷ []) vs ∷ k in
    let w = j.second in
    let x = w.second in
    let y = x.second in
    let both = eats_both strict (due inside) (λ m. behind v (in_object (names ++ n ∷ []) vs) k) y.front y.back _ (EndsBefore v) Anything value (λ m. more) (λ r h. before_members v rest y.back r y.second) in
    let three = eats_then strict (due inside) (due inside) x.front (y.front ++ y.back) _ Anything (eats_blanks strict (due inside) x.front (skips_due strict inside) x.first) both in
    let four = eats_then strict s (due inside) (58 ∷ []) (x.front ++ (y.front ++ y.back)) _ Anything (colon_in strict names vs n k) three in
    let all = eats_then strict s s j.front ((58 ∷ []) ++ (x.front ++ (y.front ++ y.back))) _ Anything (eats_blanks strict s j.front (skips_colon_due strict names vs n k) j.first) four in
    eats_next strict s t (deliver (object (members_of ((names ++ n ∷ []) ++ names_in rest) (vs ++ v ∷ values_in rest))) k) _ Anything (λ m. ap (λ (l : List (List ℕ)). deliver (object (members_of l (vs ++ v ∷ values_in rest))) k m) (append_assoc names (n ∷ []) (names_in rest)))
    (eats_same strict s _ t _ Anything (sym (j.whole ∙ ap (λ (z : List ℕ). j.front ++ z) (w.whole ∙ ap₂ (λ (p q : List ℕ). p ++ q) w.first (x.whole ∙ ap (λ (z : List ℕ). x.front ++ z) y.whole)))) all)

mutual
  unfolding step

  pub eats_value : (strict : Bool) (k : List Frame) (v : Json) (t : List ℕ) → Allowed strict (length k) v → IsValue v t → Eats strict (due k) t (deliver v k) (EndsBefore v)
  eats_value strict k null t a e = weaker null (eats_same strict (due k) _ t _ Anything (sym e) (word_in strict null k 110 117 (108 ∷ 108 ∷ []) (λ at. ap (step_due strict at k 110) kind_of-n)))
  eats_value strict k (boolean true) t a e = weaker (boolean true) (eats_same strict (due k) _ t _ Anything (sym e) (word_in strict (boolean true) k 116 114 (117 ∷ 101 ∷ []) (λ at. ap (step_due strict at k 116) kind_of-t)))
  eats_value strict k (boolean false) t a e = weaker (boolean false) (eats_same strict (due k) _ t _ Anything (sym e) (word_in strict (boolean false) k 102 97 (108 ∷ 115 ∷ 101 ∷ []) (λ at. ap (step_due strict at k 102) kind_of-f)))
  eats_value strict k (number n) t a is = eats_number strict k n t is
  eats_value strict k (text bytes) t a x = weaker (text bytes) (text_read strict k bytes t x)
  eats_value strict k (list no_items) t a j =
      let bracket : Eats strict (due k) (91 ∷ []) (λ n. go (opened_list k)) Anything = eats_byte strict (due k) 91 _ (λ at. ap (step_due strict at k 91) kind_of-list_opens ∙ opens_allowed strict k at 0 (opened_list k) (list no_items) a refl) in
      let inner = eats_then strict (opened_list k) (opened_list k) j.second.front (93 ∷ []) _ Anything (eats_blanks strict (opened_list k) j.second.front (skips_opened_list strict k) j.second.first) (empty_list strict k) in
      weaker (list no_items) (eats_same strict (due k) _ t _ Anything (sym (begins 91 t j ∙ ap (λ (x : List ℕ). 91 ∷ x) (j.second.whole ∙ ap (λ (x : List ℕ). j.second.front ++ x) j.second.second))) (eats_then strict (due k) (opened_list k) (91 ∷ []) (j.second.front ++ 93 ∷ []) _ Anything bracket inner))
  eats_value strict k (list (item v rest)) t a j =
      let allowed = first_allowed strict (suc (length k)) v rest (inside_list strict (length k) (item v rest) a) in
      let bracket : Eats strict (due k) (91 ∷ []) (λ n. go (opened_list k)) Anything = eats_byte strict (due k) 91 _ (λ at. ap (step_due strict at k 91) kind_of-list_opens ∙ opens_allowed strict k at (max (depth_of v) (items_depth rest)) (opened_list k) (list (item v rest)) a (omega arith)) in
      let w = j.second in
      let x = w.second in
      let first = first_value strict k x.front (deliver v (in_list [] ∷ k)) (EndsBefore v) (value_fronts v x.front x.first) (eats_value strict (in_list [] ∷ k) v x.front allowed.0 x.first) in
      let more = eats_items strict k rest v [] x.back allowed.1 x.second in
      let both = eats_both strict (opened_list k) (λ n. behind v (in_list []) k) x.front x.back (deliver (list (items_of (v ∷ items_list rest))) k) (EndsBefore v) Anything first (λ n. more) (λ r h. before_more v rest x.back r x.second) in
      let inner = eats_then strict (opened_list k) (opened_list k) w.front (x.front ++ x.back) _ Anything (eats_blanks strict (opened_list k) w.front (skips_opened_list strict k) w.first) both in
      let all = eats_then strict (due k) (opened_list k) (91 ∷ []) (w.front ++ (x.front ++ x.back)) _ Anything bracket inner in
      weaker (list (item v rest)) (eats_next strict (due k) t (deliver (list (items_of (v ∷ items_list rest))) k) (deliver (list (item v rest)) k) Anything (λ n. ap (λ i. deliver (list i) k n) (items_are (item v rest)))
      (eats_same strict (due k) _ t _ Anything (sym (begins 91 t j ∙ ap (λ (y : List ℕ). 91 ∷ y) (w.whole ∙ ap (λ (y : List ℕ). w.front ++ y) x.whole))) all))
  eats_value strict k (object no_members) t a j =
      let brace : Eats strict (due k) (123 ∷ []) (λ n. go (opened_object k)) Anything = eats_byte strict (due k) 123 _ (λ at. ap (step_due strict at k 123) kind_of-object_opens ∙ opens_allowed strict k at 0 (opened_object k) (object no_members) a refl) in
      let inner = eats_then strict (opened_object k) (opened_object k) j.second.front (125 ∷ []) _ Anything (eats_blanks strict (opened_object k) j.second.front (skips_opened_object strict k) j.second.first) (empty_object strict k) in
      weaker (object no_members) (eats_same strict (due k) _ t _ Anything (sym (begins 123 t j ∙ ap (λ (x : List ℕ). 123 ∷ x) (j.second.whole ∙ ap (λ (x : List ℕ). j.second.front ++ x) j.second.second))) (eats_then strict (due k) (opened_object k) (123 ∷ []) (j.second.front ++ 125 ∷ []) _ Anything brace inner))
  eats_value strict k (object (member n v rest)) t a j =
      let allowed = first_member strict (suc (length k)) [] n v rest (inside_object strict (length k) (member n v rest) a) in
      let brace : Eats strict (due k) (123 ∷ []) (λ m. go (opened_object k)) Anything = eats_byte strict (due k) 123 _ (λ at. ap (step_due strict at k 123) kind_of-object_opens ∙ opens_allowed strict k at (max (depth_of v) (members_depth rest)) (opened_object k) (object (member n v rest)) a (omega arith)) in
      let w = j.second in
      let x = w.second in
      let name = name_read strict (opened_object k) [] [] k n x.front (quote_of_first strict k) allowed.0 x.first in
      let y = x.second.second.second.second in
      let inside : List Frame = in_object (n ∷ []) [] ∷ k in
      let tail = member_tail strict k n v rest [] [] x.back x.second (eats_value strict inside v y.front allowed.1 y.first) (eats_members strict k rest v (n ∷ []) [] y.back refl allowed.2 y.second) in
      let both = eats_then strict (opened_object k) (colon_due [] [] n k) x.front x.back _ Anything name tail in
      let inner = eats_then strict (opened_object k) (opened_object k) w.front (x.front ++ x.back) _ Anything (eats_blanks strict (opened_object k) w.front (skips_opened_object strict k) w.first) both in
      let all = eats_then strict (due k) (opened_object k) (123 ∷ []) (w.front ++ (x.front ++ x.back)) _ Anything brace inner in
      weaker (object (member n v rest)) (eats_next strict (due k) t (deliver (object (members_of (n ∷ names_in rest) (v ∷ values_in rest))) k) (deliver (object (member n v rest)) k) Anything (λ m. ap (λ i. deliver (object i) k m) (members_are (member n v rest)))
      (eats_same strict (due k) _ t _ Anything (sym (begins 123 t j ∙ ap (λ (y : List ℕ). 123 ∷ y) (w.whole ∙ ap (λ (y : List ℕ). w.front ++ y) x.whole))) all))

  -- the items behind one that was read
  pub eats_items : (strict : Bool) (k : List Frame) (items : Items) (v : Json) (vs : List Json) (t : List ℕ) → ItemsAllowed strict (suc (length k)) items → MoreItems items t → Eats strict (behind v (in_list vs) k) t (deliver (list (items_of (vs ++ v ∷ items_list items))) k) Anything
  eats_items strict k no_items v vs t a j =
      eats_same strict _ _ t _ Anything (sym (j.whole ∙ ap (λ (x : List ℕ). j.front ++ x) j.second))
      (eats_then strict (behind v (in_list vs) k) (behind v (in_list vs) k) j.front (93 ∷ []) _ Anything (eats_blanks strict (behind v (in_list vs) k) j.front (skips_behind strict v (in_list vs) k) j.first) (list_end strict v vs k))
  eats_items strict k (item u rest) v vs t a j =
      let allowed = first_allowed strict (suc (length k)) u rest a in
      let s : State = behind v (in_list vs) k in
      let inside : List Frame = in_list (vs ++ v ∷ []) ∷ k in
      let w = j.second in
      let x = w.second in
      let y = x.second in
      let value = eats_value strict inside u y.front allowed.0 y.first in
      let more = eats_items strict k rest u (vs ++ v ∷ []) y.back allowed.1 y.second in
      let both = eats_both strict (due inside) (λ n. behind u (in_list (vs ++ v ∷ [])) k) y.front y.back (deliver (list (items_of ((vs ++ v ∷ []) ++ u ∷ items_list rest))) k) (EndsBefore u) Anything value (λ n. more) (λ r h. before_more u rest y.back r y.second) in
      let three = eats_then strict (due inside) (due inside) x.front (y.front ++ y.back) _ Anything (eats_blanks strict (due inside) x.front (skips_due strict inside) x.first) both in
      let four = eats_then strict s (due inside) (44 ∷ []) (x.front ++ (y.front ++ y.back)) _ Anything (comma_in_list strict v vs k) three in
      let all = eats_then strict s s j.front ((44 ∷ []) ++ (x.front ++ (y.front ++ y.back))) _ Anything (eats_blanks strict s j.front (skips_behind strict v (in_list vs) k) j.first) four in
      eats_next strict s t (deliver (list (items_of ((vs ++ v ∷ []) ++ u ∷ items_list rest))) k) _ Anything (λ n. ap (λ (l : List Json). deliver (list (items_of l)) k n) (append_assoc vs (v ∷ []) (u ∷ items_list rest)))
      (eats_same strict s _ t _ Anything (sym (j.whole ∙ ap (λ (z : List ℕ). j.front ++ z) (w.whole ∙ ap₂ (λ (p q : List ℕ). p ++ q) w.first (x.whole ∙ ap (λ (z : List ℕ). x.front ++ z) y.whole)))) all)

  -- the members behind one that was read
  pub eats_members : (strict : Bool) (k : List Frame) (members : Members) (v : Json) (names : List (List ℕ)) (vs : List Json) (t : List ℕ) → length names ≡ suc (length vs) → MembersAllowed strict (suc (length k)) names members → MoreMembers members t
      → Eats strict (behind v (in_object names vs) k) t (deliver (object (members_of (names ++ names_in members) (vs ++ v ∷ values_in members))) k) Anything
  eats_members strict k no_members v names vs t len a j =
      eats_next strict _ t (deliver (object (members_of names (vs ++ v ∷ []))) k) _ Anything (λ m. ap (λ (l : List (List ℕ)). deliver (object (members_of l (vs ++ v ∷ []))) k m) (sym (append-nil names)))
      (eats_same strict _ _ t _ Anything (sym (j.whole ∙ ap (λ (x : List ℕ). j.front ++ x) j.second))
      (eats_then strict (behind v (in_object names vs) k) (behind v (in_object names vs) k) j.front (125 ∷ []) _ Anything (eats_blanks strict (behind v (in_object names vs) k) j.front (skips_behind strict v (in_object names vs) k) j.first) (object_end strict v names vs k)))
  eats_members strict k (member n u rest) v names vs t len a j =
      let allowed = first_member strict (suc (length k)) names n u rest a in
      let s : State = behind v (in_object names vs) k in
      let names_left : State = name_due names (vs ++ v ∷ []) k in
      let w = j.second in
      let x = w.second in
      let y = x.second in
      let name = name_read strict names_left names (vs ++ v ∷ []) k n y.front (quote_of_name strict names (vs ++ v ∷ []) k) allowed.0 y.first in
      let z = y.second.second.second.second in
      let inside : List Frame = in_object (names ++ n ∷ []) (vs ++ v ∷ []) ∷ k in
      let tail = member_tail strict k n u rest names (vs ++ v ∷ []) y.back y.second (eats_value strict inside u z.front allowed.1 z.first)
      (eats_members strict k rest u (names ++ n ∷ []) (vs ++ v ∷ []) z.back (omega (arith, length-append names (n ∷ []), length-append vs (v ∷ []))) allowed.2 z.second) in
      let both = eats_then strict names_left (colon_due names (vs ++ v ∷ []) n k) y.front y.back _ Anything name tail in
      let three = eats_then strict names_left names_left x.front (y.front ++ y.back) _ Anything (eats_blanks strict names_left x.front (skips_name_due strict names (vs ++ v ∷ []) k) x.first) both in
      let four = eats_then strict s names_left (44 ∷ []) (x.front ++ (y.front ++ y.back)) _ Anything (comma_in_object strict v names vs k) three in
      let all = eats_then strict s s j.front ((44 ∷ []) ++ (x.front ++ (y.front ++ y.back))) _ Anything (eats_blanks strict s j.front (skips_behind strict v (in_object names vs) k) j.first) four in
      eats_next strict s t (deliver (object (members_of (names ++ n ∷ names_in rest) ((vs ++ v ∷ []) ++ u ∷ values_in rest))) k) _ Anything (λ m. ap (λ (l : List Json). deliver (object (members_of (names ++ n ∷ names_in rest) l)) k m) (append_assoc vs (v ∷ []) (u ∷ values_in rest)))
      (eats_same strict s _ t _ Anything (sym (j.whole ∙ ap (λ (z : List ℕ). j.front ++ z) (w.whole ∙ ap₂ (λ (p q : List ℕ). p ++ q) w.first (x.whole ∙ ap (λ (z : List ℕ). x.front ++ z) y.whole)))) all)
