-- Where strict reading stops at a limit, lenient reading goes on; elsewhere they do the same.
use Rattle.std.proofs.Common.{◌≡◌, ℕ, suc, ◌+◌, ◌<◌, Bool, true, false, cond, List, [], ◌∷◌, ◌++◌, length, refl, ap, ◌∙◌, sym, subst, arith, ◌==◌, ◌⊎◌, inl, inr}
use Rattle.bt_json.specs.Json.{Json, number, text, list, object, no_items, no_members}
use Rattle.bt_json.specs.Stands.{items_of, members_of}
use Rattle.bt_json.specs.inner.Bytes.{kind_of, mark_of}
use Rattle.bt_json.specs.inner.Reading.{State, Step, go, stop, Stop, found, bad, deep, twice, step, run, after_step, finish, finish_number, may_end, Frame, in_list, in_object, Role, as_value, as_name, InText, reads, closes, no_text, numeral_value, InNumber, goes_on, ends, wrong, due, opened_list, behind, opened_object, name_due, colon_due, in_text, in_number, in_word, word_left, deliver, opens_level, has_name, step_due, step_opened_list, step_behind, step_opened_object, step_name_due, step_colon_due, step_in_text, step_in_number, step_past, step_in_word, step_text, step_number}
use Rattle.bt_json.specs.declared.kind.Kind.{Kind}
use Rattle.bt_json.specs.declared.kind.Kind.TheVariants.{Blank, ListOpens, ListCloses, ObjectOpens, ObjectCloses, Comma, Colon, Quote, Other}
use Rattle.bt_json.specs.declared.fault.JsonFault.{JsonFault}
use Rattle.bt_json.specs.declared.fault.JsonFault.TheVariants as faults
use Rattle.bt_json.proofs.Eating.{walk, onward, settle, settle_number}
use Rattle.bt_json.specs.declared.limits.TheConstants.{MOST_LEVELS}

-- a strict step, and the lenient one
abbrev pub Alike : ℕ → Step → Step → Type 0
Alike at (go s) y = y ≡ go s
Alike at (stop (found v n)) y = y ≡ stop (found v n)
Alike at (stop (bad n)) y = (n ≡ at) × (y ≡ stop (bad n))
Alike at (stop (deep n)) y = (n ≡ at) × (t : State) × (y ≡ go t)
Alike at (stop (twice from n)) y = (n ≡ at) × (t : State) × (y ≡ go t)

delivered : (at : ℕ) (v : Json) (k : List Frame) → Alike at (deliver v k (at + 1)) (deliver v k (at + 1))
delivered at v [] = refl
delivered at v (f ∷ k) = refl

opens : (k : List Frame) (at : ℕ) (inside : State) → Alike at (opens_level true k at inside) (opens_level false k at inside)
opens k at inside = by (length k == MOST_LEVELS)
  where
    by : (b : Bool) → Alike at (cond b (stop (deep at)) (go inside)) (go inside)
    by true = (refl, inside, refl)
    by false = refl

due_alike : (at : ℕ) (k : List Frame) (b : ℕ) (kind : Kind) → Alike at (step_due true at k b kind) (step_due false at k b kind)
due_alike at k b ListOpens = opens k at (opened_list k)
due_alike at k b ListCloses = (refl, refl)
due_alike at k b ObjectOpens = opens k at (opened_object k)
due_alike at k b ObjectCloses = (refl, refl)
due_alike at k b Comma = (refl, refl)
due_alike at k b Colon = (refl, refl)
due_alike at k b Other = (refl, refl)
due_alike at k b kind = refl

opened_list_alike : (at : ℕ) (k : List Frame) (b : ℕ) (kind : Kind) → Alike at (step_opened_list true at k b kind) (step_opened_list false at k b kind)
opened_list_alike at k b Blank = refl
opened_list_alike at k b ListCloses = delivered at (list no_items) k
opened_list_alike at k b kind = due_alike at (in_list [] ∷ k) b kind

behind_alike : (at : ℕ) (v : Json) (f : Frame) (k : List Frame) (kind : Kind) → Alike at (step_behind at v f k kind) (step_behind at v f k kind)
behind_alike at v (in_list vs) k Blank = refl
behind_alike at v (in_list vs) k ListCloses = delivered at (list (items_of (vs ++ v ∷ []))) k
behind_alike at v (in_list vs) k Comma = refl
behind_alike at v (in_list vs) k kind = (refl, refl)
behind_alike at v (in_object names vs) k Blank = refl
behind_alike at v (in_object names vs) k ObjectCloses = delivered at (object (members_of names (vs ++ v ∷ []))) k
behind_alike at v (in_object names vs) k Comma = refl
behind_alike at v (in_object names vs) k kind = (refl, refl)

opened_object_alike : (at : ℕ) (k : List Frame) (kind : Kind) → Alike at (step_opened_object at k kind) (step_opened_object at k kind)
opened_object_alike at k Blank = refl
opened_object_alike at k ObjectCloses = delivered at (object no_members) k
opened_object_alike at k Quote = refl
opened_object_alike at k kind = (refl, refl)

name_due_alike : (at : ℕ) (names : List (List ℕ)) (vs : List Json) (k : List Frame) (kind : Kind) → Alike at (step_name_due at names vs k kind) (step_name_due at names vs k kind)
name_due_alike at names vs k Blank = refl
name_due_alike at names vs k Quote = refl
name_due_alike at names vs k kind = (refl, refl)

colon_due_alike : (at : ℕ) (names : List (List ℕ)) (vs : List Json) (n : List ℕ) (k : List Frame) (kind : Kind) → Alike at (step_colon_due at names vs n k kind) (step_colon_due at names vs n k kind)
colon_due_alike at names vs n k Blank = refl
colon_due_alike at names vs n k Colon = refl
colon_due_alike at names vs n k kind = (refl, refl)

text_alike : (at : ℕ) (role : Role) (k : List Frame) (x : InText) → Alike at (step_in_text true at role k x) (step_in_text false at role k x)
text_alike at role k (reads out high place) = refl
text_alike at as_value k (closes bytes) = delivered at (text bytes) k
text_alike at (as_name names vs from) k (closes bytes) = by (has_name names bytes)
  where
    by : (b : Bool) → Alike at (cond b (stop (twice from at)) (go (colon_due names vs bytes k))) (go (colon_due names vs bytes k))
    by true = (refl, colon_due names vs bytes k, refl)
    by false = refl
text_alike at role k no_text = (refl, refl)

past_alike : (at : ℕ) (v : Json) (k : List Frame) (kind : Kind) → Alike at (step_past at v k kind) (step_past at v k kind)
past_alike at v [] kind = refl
past_alike at v (f ∷ k) kind = behind_alike at v f k kind

number_alike : (at : ℕ) (k : List Frame) (kind : Kind) (x : InNumber) → Alike at (step_in_number at k kind x) (step_in_number at k kind x)
number_alike at k kind (goes_on p m) = refl
number_alike at k kind (ends m) = past_alike at (number (numeral_value m)) k kind
number_alike at k kind wrong = (refl, refl)

word_alike : (at : ℕ) (left : List ℕ) (v : Json) (k : List Frame) (b : ℕ) → Alike at (step_in_word at left v k b) (step_in_word at left v k b)
word_alike at [] v k b = (refl, refl)
word_alike at (c ∷ left) v k b = by (b == c) left
  where
    by : (x : Bool) (rest : List ℕ) → Alike at (cond x (word_left rest v k (at + 1)) (stop (bad at))) (cond x (word_left rest v k (at + 1)) (stop (bad at)))
    by true [] = delivered at v k
    by true (d ∷ rest) = refl
    by false rest = (refl, refl)

pub step_alike : (at b : ℕ) (s : State) → Alike at (step true at b s) (step false at b s)
unfolding step
step_alike at b (due k) = due_alike at k b (kind_of b)
step_alike at b (opened_list k) = opened_list_alike at k b (kind_of b)
step_alike at b (behind v f k) = behind_alike at v f k (kind_of b)
step_alike at b (opened_object k) = opened_object_alike at k (kind_of b)
step_alike at b (name_due names vs k) = name_due_alike at names vs k (kind_of b)
step_alike at b (colon_due names vs n k) = colon_due_alike at names vs n k (kind_of b)
step_alike at b (in_text out high place role k) = text_alike at role k (step_text out high place b)
step_alike at b (in_number phase n k) = number_alike at k (kind_of b) (step_number phase n (mark_of b))
step_alike at b (in_word left v k) = word_alike at left v k b

-- ---- a bad byte

-- a front of the bytes behind which lenient reading stops at the bad byte, whatever follows
pub record BadCut (at : ℕ) (s : State) (bytes : List ℕ) (n : ℕ) : Type 0 where
  pub front : List ℕ
  pub rest : List ℕ
  pub whole : bytes ≡ front ++ rest
  pub place : n + 1 ≡ at + length front
  pub stops : (more : List ℕ) → run false at s (front ++ more) ≡ bad n

finish_bad : (at : ℕ) (s : State) (n : ℕ) → finish at s ≡ bad n → n ≡ at
finish_bad at (in_number phase m k) n e = by k (may_end phase) e
  where
    by : (f : List Frame) (b : Bool) → finish_number at m f b ≡ bad n → n ≡ at
    by [] true q = absurd cc
    by [] false q = cc
    by (f ∷ fs) true q = cc
    by (f ∷ fs) false q = cc
finish_bad at s n e = cc

pub bad_cut : (bytes : List ℕ) (at : ℕ) (s : State) (n : ℕ) → run true at s bytes ≡ bad n → BadCut at s bytes n ⊎ ((n ≡ at + length bytes) × (run false at s bytes ≡ bad n))
unfolding run
bad_cut [] at s n e = inr (let q = finish_bad at s n e in omega arith, e)
bad_cut (b ∷ bytes) at s n e = by (step true at b s) (step_alike at b s) e (λ t. bad_cut bytes (at + 1) t n)
  where
    further : (t : State) → step false at b s ≡ go t → BadCut (at + 1) t bytes n ⊎ ((n ≡ at + 1 + length bytes) × (run false (at + 1) t bytes ≡ bad n)) → BadCut at s (b ∷ bytes) n ⊎ ((n ≡ at + suc (length bytes)) × (run false at s (b ∷ bytes) ≡ bad n))
    further t a (inl c) = inl (record {
      front = b ∷ c.front;
      rest = c.rest;
      whole = ap (λ (x : List ℕ). b ∷ x) c.whole;
      place = let q = c.place in omega arith;
      stops = λ more. ap (λ x. after_step x (λ u. run false (at + 1) u (c.front ++ more))) a ∙ c.stops more;
    })
    further t a (inr q) = inr (let l = q.0 in omega arith, ap (λ x. after_step x (λ u. run false (at + 1) u bytes)) a ∙ q.1)

    by : (x : Step) → Alike at x (step false at b s) → after_step x (λ t. run true (at + 1) t bytes) ≡ bad n
        → ((t : State) → run true (at + 1) t bytes ≡ bad n → BadCut (at + 1) t bytes n ⊎ ((n ≡ at + 1 + length bytes) × (run false (at + 1) t bytes ≡ bad n)))
        → BadCut at s (b ∷ bytes) n ⊎ ((n ≡ at + suc (length bytes)) × (run false at s (b ∷ bytes) ≡ bad n))
    by (go t) a q rest = further t a (rest t q)
    by (stop (found v m)) a q rest = absurd cc
    by (stop (bad m)) a q rest =
        let same : m ≡ n = cc in
        inl (record { front = b ∷ []; rest = bytes; whole = refl; place = let l = a.0 in omega arith; stops = λ more. ap (λ x. after_step x (λ u. run false (at + 1) u more)) a.1 ∙ ap (λ y. bad y) same })
    by (stop (deep m)) a q rest = absurd cc
    by (stop (twice from m)) a q rest = absurd cc

-- ---- where a value or a name is due

-- reading stops by that fault, which is found there
abbrev pub StopsBy : Stop → JsonFault → ℕ → Type 0
StopsBy (found v n) f place = ⊥
StopsBy (bad n) f place = (f ≡ faults.Json n) × (place ≡ n)
StopsBy (deep n) f place = (f ≡ faults.Deep n) × (place ≡ n)
StopsBy (twice from n) f place = (f ≡ faults.DuplicateKey from) × (place ≡ n)

abbrev pub Awaits : State → Type 0
Awaits (due k) = Unit {0}
Awaits (opened_list k) = Unit {0}
Awaits (opened_object k) = Unit {0}
Awaits (name_due names vs k) = Unit {0}
Awaits s = ⊥

settles : (at : ℕ) (s t : State) → Awaits t → settle at s ≡ go t → s ≡ t
settles at (in_number phase n k) t a e = by k (may_end phase) e
  where
    by : (f : List Frame) (b : Bool) → settle_number at phase n f b ≡ go t → in_number phase n k ≡ t
    by [] true q = absurd cc
    by (f ∷ fs) true q = let same : behind (number (numeral_value n)) f fs ≡ t = cc in absurd (subst Awaits (sym same) a)
    by [] false q = let same : in_number phase n [] ≡ t = cc in absurd (subst Awaits (sym same) a)
    by (f ∷ fs) false q = let same : in_number phase n (f ∷ fs) ≡ t = cc in absurd (subst Awaits (sym same) a)
settles at s t a e = cc

-- a fault that reading stops by before a place
pub record Before (e : Stop) (place : ℕ) : Type 0 where
  pub fault : JsonFault
  pub at : ℕ
  pub stops : StopsBy e fault at
  pub early : at < place

-- where lenient reading comes to such a place, strict reading does too, or stops before it
pub agree : (p : List ℕ) (at : ℕ) (s t : State) (rest : List ℕ) → Awaits t → walk false at s p ≡ go t → (run true at s (p ++ rest) ≡ run true (at + length p) t rest) ⊎ Before (run true at s (p ++ rest)) (at + length p)
unfolding run walk
agree [] at s t rest a e = let n : at ≡ at + 0 = omega arith in inl (ap (λ x. run true at x rest) (settles at s t a e) ∙ ap (λ m. run true m t rest) n)
agree (b ∷ p) at s t rest a e = by (step true at b s) (step_alike at b s) (λ u. agree p (at + 1) u t rest a)
  where
    Agrees : State → Type 0
    Agrees u = (run true (at + 1) u (p ++ rest) ≡ run true (at + 1 + length p) t rest) ⊎ Before (run true (at + 1) u (p ++ rest)) (at + 1 + length p)

    moved : (u : State) → Agrees u → (run true (at + 1) u (p ++ rest) ≡ run true (at + suc (length p)) t rest) ⊎ Before (run true (at + 1) u (p ++ rest)) (at + suc (length p))
    moved u (inl q) = let n : at + 1 + length p ≡ at + suc (length p) = omega arith in inl (q ∙ ap (λ m. run true m t rest) n)
    moved u (inr q) = inr (record { fault = q.fault; at = q.at; stops = q.stops; early = let l = q.early in omega arith })

    stopped : (f : Stop) → step false at b s ≡ stop f → ⊥
    stopped f q = let same : stop f ≡ go t = sym (ap (λ x. onward x (λ u. walk false (at + 1) u p)) q) ∙ e in cc

    by : (x : Step) → Alike at x (step false at b s) → ((u : State) → walk false (at + 1) u p ≡ go t → Agrees u) → (after_step x (λ u. run true (at + 1) u (p ++ rest)) ≡ run true (at + suc (length p)) t rest) ⊎ Before (after_step x (λ u. run true (at + 1) u (p ++ rest))) (at + suc (length p))
    by (go u) q more = moved u (more u (sym (ap (λ x. onward x (λ w. walk false (at + 1) w p)) q) ∙ e))
    by (stop (found v n)) q more = absurd (stopped (found v n) q)
    by (stop (bad n)) q more = absurd (stopped (bad n) q.1)
    by (stop (deep n)) q more = inr (record { fault = faults.Deep n; at = n; stops = (refl, refl); early = let l = q.0 in omega arith })
    by (stop (twice from n)) q more = inr (record { fault = faults.DuplicateKey from; at = n; stops = (refl, refl); early = let l = q.0 in omega arith })

-- the same from the first byte on
pub agree_at_front : (p : List ℕ) (t : State) (rest : List ℕ) → Awaits t → walk false 0 (due []) p ≡ go t → (run true 0 (due []) (p ++ rest) ≡ run true (length p) t rest) ⊎ Before (run true 0 (due []) (p ++ rest)) (length p)
agree_at_front p t rest a e =
    let n : 0 + length p ≡ length p = omega arith in
    subst (λ m. (run true 0 (due []) (p ++ rest) ≡ run true m t rest) ⊎ Before (run true 0 (due []) (p ++ rest)) m) n (agree p 0 (due []) t rest a e)
