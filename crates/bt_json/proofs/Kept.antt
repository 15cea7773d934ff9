-- What strict reading keeps: no more than 64 levels, and no name twice.
use Rattle.std.proofs.Common.{◌≡◌, ℕ, zero, suc, ◌+◌, ◌<◌, ◌≤◌, Bool, true, false, cond, List, [], ◌∷◌, ◌++◌, length, Option, refl, ap, sym, subst, arith, append_assoc, ◌==◌}
use Rattle.std.specs.Prelude.{◌||◌, Contains}
use Rattle.std.specs.Str.{bytes_eq}
use Rattle.std.proofs.lemmas.List.{append-nil}
use Rattle.std.proofs.lemmas.Bool.Decides.{nat_tests}
use Rattle.std.proofs.lemmas.Slice.Eq.{bytes_eq-Decides}
use Rattle.bt_json.specs.Json.{Json, number, text, list, object, no_items, no_members}
use Rattle.bt_json.specs.Stands.{items_of, members_of}
use Rattle.bt_json.specs.Places.{Frame, in_list, in_object}
use Rattle.bt_json.specs.Answers.{depth_of, HasDistinctNames}
use Rattle.bt_json.specs.inner.Bytes.{kind_of, mark_of}
use Rattle.bt_json.specs.inner.Reading.{State, Step, go, stop, found, bad, deep, twice, step, Role, as_value, as_name, Place, InText, reads, closes, no_text, numeral_value, InNumber, goes_on, ends, wrong, due, opened_list, behind, opened_object, name_due, colon_due, in_text, in_number, in_word, deliver, opens_level, has_name, step_due, step_opened_list, step_behind, step_opened_object, step_name_due, step_colon_due, step_in_text, step_in_number, step_past, step_in_word, step_text, step_number}
use Rattle.bt_json.specs.declared.kind.Kind.{Kind}
use Rattle.bt_json.specs.declared.kind.Kind.TheVariants.{Blank, ListOpens, ListCloses, ObjectOpens, ObjectCloses, Comma, Colon, Quote, Minus, Digit, LetterT, LetterF, LetterN}
use Rattle.bt_json.proofs.Eaten.{Allowed, ItemsAllowed, MembersAllowed}
use Rattle.bt_json.specs.declared.limits.TheConstants.{MOST_LEVELS}

-- ---- names

abbrev NewNames : List (List ℕ) → List (List ℕ) → Type 0
NewNames before [] = Unit {0}
NewNames before (n ∷ names) = (Contains before n → ⊥) × NewNames (before ++ n ∷ []) names

same_bytes : (n m : List ℕ) → m ≡ n → bytes_eq n m ≡ true
same_bytes n m e = (bytes_eq-Decides n m).1 (sym e)

or_right : (x y : Bool) → y ≡ true → (x || y) ≡ true
or_right true y e = refl
or_right false y e = e

pub named_there : (names : List (List ℕ)) (n : List ℕ) → Contains names n → has_name names n ≡ true
named_there [] n c = absurd (let l = c.1 in omega arith)
named_there (m ∷ names) n (zero, lt, e) = ap (λ b. b || has_name names n) (same_bytes n m e)
named_there (m ∷ names) n (suc i, lt, e) = or_right (bytes_eq n m) (has_name names n) (named_there names n (i, (omega arith), e))

unnamed : (names : List (List ℕ)) (n : List ℕ) → has_name names n ≡ false → Contains names n → ⊥
unnamed names n e c = let t = named_there names n c in cc

new_push : (before names : List (List ℕ)) (n : List ℕ) → NewNames before names → (Contains (before ++ names) n → ⊥) → NewNames before (names ++ n ∷ [])
new_push before [] n h none = (subst (λ (l : List (List ℕ)). Contains l n → ⊥) (append-nil before) none, tt)
new_push before (m ∷ names) n h none = (h.0, new_push (before ++ m ∷ []) names n h.1 (subst (λ (l : List (List ℕ)). Contains l n → ⊥) (sym (append_assoc before (m ∷ []) names)) none))

-- ---- values in an open list or object

abbrev AllAllowed : ℕ → List Json → Type 0
AllAllowed depth [] = Unit {0}
AllAllowed depth (v ∷ vs) = Allowed true depth v × AllAllowed depth vs

all_push : (depth : ℕ) (vs : List Json) (v : Json) → AllAllowed depth vs → Allowed true depth v → AllAllowed depth (vs ++ v ∷ [])
all_push depth [] v h a = (a, tt)
all_push depth (w ∷ vs) v h a = (h.0, all_push depth vs v h.1 a)

items_allowed : (depth : ℕ) (vs : List Json) → depth ≤ MOST_LEVELS → AllAllowed depth vs → ItemsAllowed true depth (items_of vs)
items_allowed depth [] le h = (omega arith, tt)
items_allowed depth (v ∷ vs) le h = let rest = items_allowed depth vs le h.1 in let a = h.0.0 in let b = rest.0 in (omega arith, (h.0.1, rest.1))

members_allowed : (depth : ℕ) (before names : List (List ℕ)) (vs : List Json) → depth ≤ MOST_LEVELS → NewNames before names → AllAllowed depth vs → MembersAllowed true depth before (members_of names vs)
members_allowed depth before [] vs le n h = (omega arith, tt)
members_allowed depth before (m ∷ names) [] le n h = (omega arith, tt)
members_allowed depth before (m ∷ names) (v ∷ vs) le n h = let rest = members_allowed depth (before ++ m ∷ []) names vs le n.1 h.1 in let a = h.0.0 in let b = rest.0 in (omega arith, (n.0, h.0.1, rest.1))

abbrev FrameFits : ℕ → Frame → Type 0
FrameFits depth (in_list vs) = AllAllowed depth vs
FrameFits depth (in_object names vs) = NewNames [] names × AllAllowed depth vs

abbrev FramesFit : List Frame → Type 0
FramesFit [] = Unit {0}
FramesFit (f ∷ k) = FrameFits (length (f ∷ k)) f × FramesFit k

abbrev pub Fits : List Frame → Type 0
Fits k = (length k ≤ MOST_LEVELS) × FramesFit k

abbrev ObjectFits : List (List ℕ) → List Json → List Frame → Type 0
ObjectFits names vs k = Fits k × (length k < MOST_LEVELS) × NewNames [] names × AllAllowed (suc (length k)) vs

abbrev IsLeaf : Json → Type 0
IsLeaf v = (depth_of v ≡ 0) × HasDistinctNames v

abbrev pub Kept : State → Type 0
Kept (due k) = Fits k
Kept (opened_list k) = Fits k × (length k < MOST_LEVELS)
Kept (behind v f k) = Allowed true (length (f ∷ k)) v × Fits (f ∷ k)
Kept (opened_object k) = Fits k × (length k < MOST_LEVELS)
Kept (name_due names vs k) = ObjectFits names vs k
Kept (colon_due names vs n k) = ObjectFits names vs k × (has_name names n ≡ false)
Kept (in_text out high place as_value k) = Fits k
Kept (in_text out high place (as_name names vs from) k) = ObjectFits names vs k
Kept (in_number phase n k) = Fits k
Kept (in_word left v k) = Fits k × IsLeaf v

abbrev pub StepKept : Step → Type 0
StepKept (go s) = Kept s
StepKept (stop (found v n)) = Allowed true 0 v
StepKept s = Unit {0}

chosen : (x : Bool) (a c : Step) → (x ≡ true → StepKept a) → (x ≡ false → StepKept c) → StepKept (cond x a c)
chosen true a c f g = f refl
chosen false a c f g = g refl

delivered : (v : Json) (k : List Frame) (at : ℕ) → Fits k → Allowed true (length k) v → StepKept (deliver v k at)
delivered v [] at h a = a
delivered v (f ∷ k) at h a = (a, h)

leaf_allowed : (v : Json) (k : List Frame) → Fits k → IsLeaf v → Allowed true (length k) v
leaf_allowed v k h l = let a = h.0 in let b = l.0 in (omega arith, l.1)

list_allowed : (k : List Frame) (vs : List Json) → length k < MOST_LEVELS → AllAllowed (suc (length k)) vs → Allowed true (length k) (list (items_of vs))
list_allowed k vs lt h = let a = items_allowed (suc (length k)) vs (omega arith) h in let b = a.0 in (omega arith, a.1)

object_allowed : (k : List Frame) (names : List (List ℕ)) (vs : List Json) → length k < MOST_LEVELS → NewNames [] names → AllAllowed (suc (length k)) vs → Allowed true (length k) (object (members_of names vs))
object_allowed k names vs lt n h = let a = members_allowed (suc (length k)) [] names vs (omega arith) n h in let b = a.0 in (omega arith, a.1)

-- ---- steps

opens : (k : List Frame) (at : ℕ) (inside : State) → Fits k → (length k < MOST_LEVELS → Kept inside) → StepKept (opens_level true k at inside)
opens k at inside h f = chosen (length k == MOST_LEVELS) (stop (deep at)) (go inside) (λ e. tt) (λ e. f (let le = h.0 in grind (arith, nat_tests)))

due_kept : (at : ℕ) (k : List Frame) (b : ℕ) (kind : Kind) → Fits k → StepKept (step_due true at k b kind)
due_kept at k b Blank h = h
due_kept at k b ListOpens h = opens k at (opened_list k) h (λ lt. (h, lt))
due_kept at k b ObjectOpens h = opens k at (opened_object k) h (λ lt. (h, lt))
due_kept at k b Quote h = h
due_kept at k b Minus h = h
due_kept at k b Digit h = h
due_kept at k b LetterT h = (h, (refl, tt))
due_kept at k b LetterF h = (h, (refl, tt))
due_kept at k b LetterN h = (h, (refl, tt))
due_kept at k b kind h = tt

in_new_list : (k : List Frame) → Fits k → length k < MOST_LEVELS → Fits (in_list [] ∷ k)
in_new_list k h lt = (omega arith, (tt, h.1))

opened_list_kept : (at : ℕ) (k : List Frame) (b : ℕ) (kind : Kind) → Fits k → length k < MOST_LEVELS → StepKept (step_opened_list true at k b kind)
opened_list_kept at k b Blank h lt = (h, lt)
opened_list_kept at k b ListCloses h lt = delivered (list no_items) k (at + 1) h (list_allowed k [] lt tt)
opened_list_kept at k b ListOpens h lt = due_kept at (in_list [] ∷ k) b ListOpens (in_new_list k h lt)
opened_list_kept at k b ObjectOpens h lt = due_kept at (in_list [] ∷ k) b ObjectOpens (in_new_list k h lt)
opened_list_kept at k b Quote h lt = in_new_list k h lt
opened_list_kept at k b Minus h lt = in_new_list k h lt
opened_list_kept at k b Digit h lt = in_new_list k h lt
opened_list_kept at k b LetterT h lt = (in_new_list k h lt, (refl, tt))
opened_list_kept at k b LetterF h lt = (in_new_list k h lt, (refl, tt))
opened_list_kept at k b LetterN h lt = (in_new_list k h lt, (refl, tt))
opened_list_kept at k b kind h lt = tt

behind_kept : (at : ℕ) (v : Json) (f : Frame) (k : List Frame) (kind : Kind) → Allowed true (length (f ∷ k)) v → Fits (f ∷ k) → StepKept (step_behind at v f k kind)
behind_kept at v (in_list vs) k Blank a h = (a, h)
behind_kept at v (in_object names vs) k Blank a h = (a, h)
behind_kept at v (in_list vs) k Comma a h = (h.0, (all_push (suc (length k)) vs v h.1.0 a, h.1.1))
behind_kept at v (in_list vs) k ListCloses a h = let le = h.0 in delivered (list (items_of (vs ++ v ∷ []))) k (at + 1) (omega arith, h.1.1) (list_allowed k (vs ++ v ∷ []) (omega arith) (all_push (suc (length k)) vs v h.1.0 a))
behind_kept at v (in_object names vs) k Comma a h = let le = h.0 in ((omega arith, h.1.1), omega arith, h.1.0.0, all_push (suc (length k)) vs v h.1.0.1 a)
behind_kept at v (in_object names vs) k ObjectCloses a h =
    let le = h.0 in delivered (object (members_of names (vs ++ v ∷ []))) k (at + 1) (omega arith, h.1.1) (object_allowed k names (vs ++ v ∷ []) (omega arith) h.1.0.0 (all_push (suc (length k)) vs v h.1.0.1 a))
behind_kept at v (in_list vs) k kind a h = tt
behind_kept at v (in_object names vs) k kind a h = tt

opened_object_kept : (at : ℕ) (k : List Frame) (kind : Kind) → Fits k → length k < MOST_LEVELS → StepKept (step_opened_object at k kind)
opened_object_kept at k Blank h lt = (h, lt)
opened_object_kept at k ObjectCloses h lt = delivered (object no_members) k (at + 1) h (object_allowed k [] [] lt tt tt)
opened_object_kept at k Quote h lt = (h, lt, tt, tt)
opened_object_kept at k kind h lt = tt

name_due_kept : (at : ℕ) (names : List (List ℕ)) (vs : List Json) (k : List Frame) (kind : Kind) → ObjectFits names vs k → StepKept (step_name_due at names vs k kind)
name_due_kept at names vs k Blank h = h
name_due_kept at names vs k Quote h = h
name_due_kept at names vs k kind h = tt

colon_due_kept : (at : ℕ) (names : List (List ℕ)) (vs : List Json) (n : List ℕ) (k : List Frame) (kind : Kind) → ObjectFits names vs k → has_name names n ≡ false → StepKept (step_colon_due at names vs n k kind)
colon_due_kept at names vs n k Blank h e = (h, e)
colon_due_kept at names vs n k Colon h e = let lt = h.1 in (omega arith, ((new_push [] names n h.2 (unnamed names n e), h.3), h.0.1))
colon_due_kept at names vs n k kind h e = tt

text_kept : (at : ℕ) (out : List ℕ) (high : Option ℕ) (place : Place) (role : Role) (k : List Frame) (x : InText) → Kept (in_text out high place role k) → StepKept (step_in_text true at role k x)
text_kept at out high place as_value k (reads o h p) kept = kept
text_kept at out high place (as_name names vs from) k (reads o h p) kept = kept
text_kept at out high place as_value k (closes bytes) kept = delivered (text bytes) k (at + 1) kept (leaf_allowed (text bytes) k kept (refl, tt))
text_kept at out high place (as_name names vs from) k (closes bytes) kept = chosen (has_name names bytes) (stop (twice from at)) (go (colon_due names vs bytes k)) (λ e. tt) (λ e. (kept, e))
text_kept at out high place as_value k no_text kept = tt
text_kept at out high place (as_name names vs from) k no_text kept = tt

past_kept : (at : ℕ) (v : Json) (k : List Frame) (kind : Kind) → Fits k → Allowed true (length k) v → StepKept (step_past at v k kind)
past_kept at v [] kind h a = a
past_kept at v (f ∷ k) kind h a = behind_kept at v f k kind a h

number_kept : (at : ℕ) (k : List Frame) (kind : Kind) (x : InNumber) → Fits k → StepKept (step_in_number at k kind x)
number_kept at k kind (goes_on p m) h = h
number_kept at k kind (ends m) h = past_kept at (number (numeral_value m)) k kind h (leaf_allowed (number (numeral_value m)) k h (refl, tt))
number_kept at k kind wrong h = tt

word_kept : (at : ℕ) (left : List ℕ) (v : Json) (k : List Frame) (b : ℕ) → Fits k → IsLeaf v → StepKept (step_in_word at left v k b)
word_kept at [] v k b h l = tt
word_kept at (c ∷ []) v k b h l = chosen (b == c) (deliver v k (at + 1)) (stop (bad at)) (λ e. delivered v k (at + 1) h (leaf_allowed v k h l)) (λ e. tt)
word_kept at (c ∷ d ∷ left) v k b h l = chosen (b == c) (go (in_word (d ∷ left) v k)) (stop (bad at)) (λ e. (h, l)) (λ e. tt)

pub step_kept : (at b : ℕ) (s : State) → Kept s → StepKept (step true at b s)
unfolding step
step_kept at b (due k) h = due_kept at k b (kind_of b) h
step_kept at b (opened_list k) h = opened_list_kept at k b (kind_of b) h.0 h.1
step_kept at b (behind v f k) h = behind_kept at v f k (kind_of b) h.0 h.1
step_kept at b (opened_object k) h = opened_object_kept at k (kind_of b) h.0 h.1
step_kept at b (name_due names vs k) h = name_due_kept at names vs k (kind_of b) h
step_kept at b (colon_due names vs n k) h = colon_due_kept at names vs n k (kind_of b) h.0 h.1
step_kept at b (in_text out high place role k) h = text_kept at out high place role k (step_text out high place b) h
step_kept at b (in_number phase n k) h = number_kept at k (kind_of b) (step_number phase n (mark_of b)) h
step_kept at b (in_word left v k) h = word_kept at left v k b h.0 h.1
