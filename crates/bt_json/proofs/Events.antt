-- Reading stops by the first fault that is found.
use Rattle.std.proofs.Common.{◌≡◌, ℕ, zero, suc, ◌+◌, ◌-◌, ◌<◌, ◌≤◌, true, false, cond, List, [], ◌∷◌, ◌++◌, length, take, drop, Some, refl, ap, ap₂, ◌∙◌, sym, subst, arith, ◌⊎◌, inl, inr, eq-eqb}
use Rattle.std.specs.Prelude.{slice_get}
use Rattle.std.proofs.lemmas.List.{append-nil, length-append, take-append-drop, length-take, length-drop}
use Rattle.bt_json.specs.Json.{Json}
use Rattle.bt_json.specs.Grammar.{IsText}
use Rattle.bt_json.specs.Places.{Frame, in_list, in_object, Due, NameDue}
use Rattle.bt_json.specs.Answers.{IsFront, HasValue, IsBad, IsDeep, IsTwice, FoundAt, IsFirst}
use Rattle.bt_json.specs.inner.Bytes.{kind_of}
use Rattle.bt_json.specs.inner.Reading.{State, Step, go, stop, Stop, found, bad, deep, twice, step, run, after_step, as_name, due, opened_list, opened_object, name_due, colon_due, opens_level, has_name, finish_text, step_due, step_opened_list, reading}
use Rattle.bt_json.specs.declared.kind.Kind.TheVariants.{ListOpens, ObjectOpens}
use Rattle.bt_json.specs.declared.fault.JsonFault.{JsonFault}
use Rattle.bt_json.specs.declared.fault.JsonFault.TheVariants as faults
use Rattle.bt_json.proofs.ByteKinds.{kind_of-list_opens, kind_of-object_opens}
use Rattle.bt_json.proofs.Eating.{walk, run_is, ended, after}
use Rattle.bt_json.proofs.Eaten.{quote_of_name}
use Rattle.bt_json.proofs.EatenTexts.{eats_text}
use Rattle.bt_json.proofs.Sound.{Reached, Good, sound_step}
use Rattle.bt_json.proofs.Kept.{named_there}
use Rattle.bt_json.proofs.Whole.{Right, reading_right, take_front, front_is, regroup, finds}
use Rattle.bt_json.proofs.Live.{has_value}
use Rattle.bt_json.proofs.Lenient.{Alike, step_alike, BadCut, bad_cut, StopsBy, Awaits, Before, agree_at_front}
use Rattle.bt_json.proofs.Dues.{due_state, due_eaten, name_eaten}
use Rattle.bt_json.specs.declared.limits.TheConstants.{MOST_LEVELS}

-- ---- a bad byte

is_bad : (bytes : List ℕ) (n : ℕ) → reading bytes ≡ bad n → IsBad bytes n
is_bad bytes n e = by (bad_cut bytes 0 (due []) n e)
  where
    clash : (v : Json) (m : ℕ) (x : Stop) → x ≡ found v m → x ≡ bad n → ⊥
    clash v m x p q = let same : found v m ≡ bad n = sym p ∙ q in cc

    by : BadCut 0 (due []) bytes n ⊎ ((n ≡ 0 + length bytes) × (run false 0 (due []) bytes ≡ bad n)) → IsBad bytes n
    by (inl c) =
        let len : n + 1 ≡ length c.front = (let q = c.place in omega arith) in
        let front : take (n + 1) bytes ≡ c.front = ap (take (n + 1)) c.whole ∙ take_front c.front c.rest (n + 1) len in
        inl (
          (let l : length bytes ≡ length (c.front ++ c.rest) = ap (λ (x : List ℕ). length x) c.whole in omega (arith, l, length-append c.front c.rest)),
          λ more h.
              let f : IsFront (c.front ++ more) h.0 h.1 = subst (λ (x : List ℕ). IsFront (x ++ more) h.0 h.1) front h.2 in
              clash h.0 h.1 (run false 0 (due []) (c.front ++ more)) (finds false (c.front ++ more) h.0 h.1 tt f) (c.stops more),
        )
    by (inr q) = inr ((let l = q.0 in omega arith), λ h. clash h.0 h.1 (run false 0 (due []) bytes) (finds false bytes h.0 h.1 tt h.2) q.1)

-- ---- no fault is found before reading stops

-- reading stops by a fault no later than that one, and by that one if not before it
pub record Stopped (e : Stop) (f : JsonFault) (place : ℕ) : Type 0 where
  pub fault : JsonFault
  pub at : ℕ
  pub stops : StopsBy e fault at
  pub early : at ≤ place
  pub same : at ≡ place → fault ≡ f

abbrev Dead : List ℕ → Type 0
Dead t = (more : List ℕ) → HasValue (t ++ more) → ⊥

-- no value begins as the bytes do, up to a place
dead_stops : (q : List ℕ) (at : ℕ) (s : State) (p r : List ℕ) (place : ℕ) → at ≡ length p → Reached s p → Dead (p ++ q) → place + 1 ≡ at + length q → Stopped (run true at s (q ++ r)) (faults.Json place) place
unfolding run
dead_stops [] at s p r place len h dead e = absurd (let v = has_value s p h in dead v.0 (subst (λ (x : List ℕ). HasValue (x ++ v.0)) (sym (append-nil p)) v.1))
dead_stops (b ∷ q) at s p r place len h dead e =
    by (step true at b s) (sound_step true at b s p len h) (step_alike at b s) (λ t g. dead_stops q (at + 1) t (p ++ b ∷ []) r place (omega (arith, length-append p (b ∷ []))) g (subst Dead (regroup p b q) dead) (omega arith))
  where
    never : (v : Json) (n : ℕ) → Good at b p (stop (found v n)) → ⊥
    never v n (inl g) = dead [] (v, n, subst (λ (x : List ℕ). IsFront x v n) (sym (append-nil (p ++ (b ∷ q)))) (front_is (p ++ (b ∷ q)) (p ++ b ∷ []) q v n (regroup p b q) (let m = g.0 in omega (arith, length-append p (b ∷ []))) g.1 (g.2 q)))
    never v n (inr g) = dead [] (v, n, subst (λ (x : List ℕ). IsFront x v n) (sym (append-nil (p ++ (b ∷ q)))) (front_is (p ++ (b ∷ q)) p (b ∷ q) v n refl (g.0 ∙ len) g.1 (g.2 q)))

    -- where lenient reading goes on, the byte isn't the last one
    goes_on : (x : List ℕ) → q ≡ x → (t : State) → step false at b s ≡ go t → 0 < length x
    goes_on [] w t a = absurd (
        let g : Good at b p (go t) = subst (Good at b p) a (sound_step false at b s p len h) in
        let v = has_value t (p ++ b ∷ []) g in
        dead v.0 (subst (λ (x : List ℕ). HasValue (x ++ v.0)) (ap (λ (x : List ℕ). p ++ (b ∷ x)) (sym w)) v.1))
    goes_on (c ∷ x) w t a = omega arith

    by : (x : Step) → Good at b p x → Alike at x (step false at b s) → ((t : State) → Reached t (p ++ b ∷ []) → Stopped (run true (at + 1) t (q ++ r)) (faults.Json place) place) → Stopped (after_step x (λ t. run true (at + 1) t (q ++ r))) (faults.Json place) place
    by (go t) g a rest = rest t g
    by (stop (found v n)) g a rest = absurd (never v n g)
    by (stop (bad n)) g a rest = record { fault = faults.Json n; at = n; stops = (refl, refl); early = let m = a.0 in omega arith; same = λ c. ap faults.Json c }
    by (stop (deep n)) g a rest = let m = a.0 in let l = goes_on q refl a.1 a.2 in record { fault = faults.Deep n; at = n; stops = (refl, refl); early = omega arith; same = λ c. absurd (omega arith) }
    by (stop (twice from n)) g a rest = let m = a.0 in let l = goes_on q refl a.1 a.2 in record { fault = faults.DuplicateKey from; at = n; stops = (refl, refl); early = omega arith; same = λ c. absurd (omega arith) }

-- a byte at a place
at_place : (bytes : List ℕ) (n b : ℕ) → slice_get bytes n ≡ Some b → (n < length bytes) × (rest : List ℕ) × (drop n bytes ≡ b ∷ rest)
at_place [] n b e = absurd cc
at_place (c ∷ bytes) zero b e = (omega arith, bytes, (let same : c ≡ b = cc in ap (λ x. x ∷ bytes) same))
at_place (c ∷ bytes) (suc n) b e = let r = at_place bytes n b e in let l = r.0 in (omega arith, r.1, r.2)

deep_within : (bytes : List ℕ) (n : ℕ) → IsDeep bytes n → n < length bytes
deep_within bytes n d = by d.opens
  where
    by : (slice_get bytes n ≡ Some 91) ⊎ (slice_get bytes n ≡ Some 123) → n < length bytes
    by (inl e) = (at_place bytes n 91 e).0
    by (inr e) = (at_place bytes n 123 e).0

text_some : (n t : List ℕ) → IsText n t → 0 < length t
text_some n t x = subst (λ l. 0 < length l) (sym (x.spelled.whole ∙ ap (λ (y : List ℕ). y ++ x.spelled.back) x.spelled.first)) (omega arith)

twice_within : (bytes : List ℕ) (from n : ℕ) → IsTwice bytes from n → n < length bytes
twice_within bytes from n t =
    let l : length (drop from bytes) ≡ length (t.spelling ++ t.rest) = ap (λ (x : List ℕ). length x) t.whole in
    let c = t.closes in
    let some = text_some t.name t.spelling t.spelled in
    omega (arith, l, length-append t.spelling t.rest, length-drop from bytes)

-- no value is there, and the bytes end
end_only : (bytes : List ℕ) (n : ℕ) (e : Stop) → n ≡ length bytes → (HasValue bytes → ⊥) → Right bytes e → Stopped e (faults.Json n) n
end_only bytes n (found v m) w none r = absurd (none (v, m, r))
end_only bytes n (bad m) w none r = record { fault = faults.Json m; at = m; stops = (refl, refl); early = omega arith; same = λ c. ap faults.Json c }
end_only bytes n (deep m) w none r = let l = deep_within bytes m r in record { fault = faults.Deep m; at = m; stops = (refl, refl); early = omega arith; same = λ c. absurd (omega arith) }
end_only bytes n (twice from m) w none r = let l = twice_within bytes from m r in record { fault = faults.DuplicateKey from; at = m; stops = (refl, refl); early = omega arith; same = λ c. absurd (omega arith) }

bad_stops : (bytes : List ℕ) (n : ℕ) → IsBad bytes n → Stopped (reading bytes) (faults.Json n) n
bad_stops bytes n (inl h) =
    let l = h.0 in
    let whole : take (n + 1) bytes ++ drop (n + 1) bytes ≡ bytes = take-append-drop (n + 1) bytes in
    subst (λ (x : List ℕ). Stopped (reading x) (faults.Json n) n) whole (dead_stops (take (n + 1) bytes) 0 (due []) [] (drop (n + 1) bytes) n refl tt h.1 (omega (arith, length-take (n + 1) bytes)))
bad_stops bytes n (inr h) = end_only bytes n (reading bytes) h.0 h.1 (reading_right true bytes)

-- ---- a level too many

settle_due : (k : List Frame) (n : ℕ) → after false n (go (due_state k)) [] ≡ go (due_state k)
unfolding walk
settle_due [] n = refl
settle_due (in_list [] ∷ k) n = refl
settle_due (in_list (v ∷ vs) ∷ k) n = refl
settle_due (in_object names vs ∷ k) n = refl

awaits_due : (k : List Frame) → Awaits (due_state k)
awaits_due [] = tt
awaits_due (in_list [] ∷ k) = tt
awaits_due (in_list (v ∷ vs) ∷ k) = tt
awaits_due (in_object names vs ∷ k) = tt

too_deep : (k : List Frame) (at : ℕ) (inside : State) → length k ≡ MOST_LEVELS → opens_level true k at inside ≡ stop (deep at)
too_deep k at inside e = ap (λ b. cond b (stop (deep at)) (go inside)) (eq-eqb (length k) MOST_LEVELS e)

abbrev IsBracket : ℕ → Type 0
IsBracket b = (kind_of b ≡ ListOpens) ⊎ (kind_of b ≡ ObjectOpens)

due_deep : (k : List Frame) (at b : ℕ) → length k ≡ MOST_LEVELS → IsBracket b → step true at b (due k) ≡ stop (deep at)
unfolding step
due_deep k at b e (inl q) = ap (step_due true at k b) q ∙ too_deep k at (opened_list k) e
due_deep k at b e (inr q) = ap (step_due true at k b) q ∙ too_deep k at (opened_object k) e

list_deep : (k : List Frame) (at b : ℕ) → length (in_list [] ∷ k) ≡ MOST_LEVELS → IsBracket b → step true at b (opened_list k) ≡ stop (deep at)
unfolding step
list_deep k at b e (inl q) = ap (step_opened_list true at k b) q ∙ too_deep (in_list [] ∷ k) at (opened_list (in_list [] ∷ k)) e
list_deep k at b e (inr q) = ap (step_opened_list true at k b) q ∙ too_deep (in_list [] ∷ k) at (opened_object (in_list [] ∷ k)) e

state_deep : (k : List Frame) (at b : ℕ) → length k ≡ MOST_LEVELS → IsBracket b → step true at b (due_state k) ≡ stop (deep at)
state_deep [] at b e q = due_deep [] at b e q
state_deep (in_list [] ∷ k) at b e q = list_deep k at b e q
state_deep (in_list (v ∷ vs) ∷ k) at b e q = due_deep (in_list (v ∷ vs) ∷ k) at b e q
state_deep (in_object names vs ∷ k) at b e q = due_deep (in_object names vs ∷ k) at b e q

run_step : (at b : ℕ) (s : State) (r : List ℕ) (e : Stop) → step true at b s ≡ stop e → run true at s (b ∷ r) ≡ e
unfolding run
run_step at b s r e h = ap (λ x. after_step x (λ t. run true (at + 1) t r)) h

-- reading that stops before a place stops before what is found there
before_stops : (e : Stop) (n place : ℕ) (f : JsonFault) → n ≤ place → Before e n → Stopped e f place
before_stops e n place f le b = let l = b.early in record { fault = b.fault; at = b.at; stops = b.stops; early = omega arith; same = λ c. absurd (omega arith) }

bracket_stops : (p : List ℕ) (b : ℕ) (r : List ℕ) (k : List Frame) → length k ≡ MOST_LEVELS → Due k p → IsBracket b → Stopped (reading (p ++ (b ∷ r))) (faults.Deep (length p)) (length p)
bracket_stops p b r k levels h q = by (agree_at_front p (due_state k) (b ∷ r) (awaits_due k) walked)
  where
    walked : walk false 0 (due []) p ≡ go (due_state k)
    walked = ap (walk false 0 (due [])) (sym (append-nil p)) ∙ (due_eaten k p h).eats 0 [] tt ∙ settle_due k (0 + length p)

    by : (run true 0 (due []) (p ++ (b ∷ r)) ≡ run true (length p) (due_state k) (b ∷ r)) ⊎ Before (run true 0 (due []) (p ++ (b ∷ r))) (length p) → Stopped (reading (p ++ (b ∷ r))) (faults.Deep (length p)) (length p)
    by (inl e) = subst (λ x. Stopped x (faults.Deep (length p)) (length p)) (sym (e ∙ run_step (length p) b (due_state k) r (deep (length p)) (state_deep k (length p) b levels q)))
        (record { fault = faults.Deep (length p); at = length p; stops = (refl, refl); early = omega arith; same = λ c. refl })
    by (inr e) = before_stops (reading (p ++ (b ∷ r))) (length p) (length p) (faults.Deep (length p)) (omega arith) e

deep_stops : (bytes : List ℕ) (n : ℕ) → IsDeep bytes n → Stopped (reading bytes) (faults.Deep n) n
deep_stops bytes n d = by d.opens
  where
    there : (b : ℕ) → IsBracket b → slice_get bytes n ≡ Some b → Stopped (reading bytes) (faults.Deep n) n
    there b q e =
        let a = at_place bytes n b e in
        let l = a.0 in
        let len : length (take n bytes) ≡ n = omega (arith, length-take n bytes) in
        let whole : take n bytes ++ (b ∷ a.1) ≡ bytes = ap (λ (x : List ℕ). take n bytes ++ x) (sym a.2) ∙ take-append-drop n bytes in
        let stops = bracket_stops (take n bytes) b a.1 d.frames d.levels d.due q in
        subst (λ (x : List ℕ). Stopped (reading x) (faults.Deep n) n) whole (subst (λ m. Stopped (reading (take n bytes ++ (b ∷ a.1))) (faults.Deep m) m) len stops)

    by : (slice_get bytes n ≡ Some 91) ⊎ (slice_get bytes n ≡ Some 123) → Stopped (reading bytes) (faults.Deep n) n
    by (inl e) = there 91 (inl kind_of-list_opens) e
    by (inr e) = there 123 (inr kind_of-object_opens) e

-- ---- a name that is there

-- a name that its object has, where one is due
name_stops : (at : ℕ) (names : List (List ℕ)) (vs : List Json) (k : List Frame) (n t r : List ℕ) (close : ℕ) → IsText n t → has_name names n ≡ true → close + 1 ≡ at + length t → run true at (name_due names vs k) (t ++ r) ≡ twice at close
name_stops at names vs k n t r close x there c =
    let s : State = name_due names vs k in
    let back : List ℕ = x.spelled.back in
    let spelled : t ≡ 34 ∷ back = x.spelled.whole ∙ ap (λ (y : List ℕ). y ++ back) x.spelled.first in
    let len : length t ≡ suc (length back) = ap (λ (y : List ℕ). length y) spelled in
    let from : at + 1 - 1 ≡ at = omega arith in
    let last : at + 1 + length back - 1 ≡ close = omega arith in
    let opened = (quote_of_name true names vs k).eats at (back ++ r) tt in
    let closed = (eats_text true (as_name names vs (at + 1 - 1)) k n back x.pieces x.spelled.second x.value).eats (at + 1) r tt in
    let stopped : finish_text true (at + 1 + length back - 1) n (as_name names vs (at + 1 - 1)) k ≡ stop (twice at close) =
    ap (λ b. cond b (stop (twice (at + 1 - 1) (at + 1 + length back - 1))) (go (colon_due names vs n k))) there ∙ ap₂ (λ y z. stop (twice y z)) from last in
    let walked : walk true at s (t ++ r) ≡ stop (twice at close) = ap (λ (y : List ℕ). walk true at s (y ++ r)) spelled ∙ opened ∙ closed ∙ ap (λ y. after true (at + 1 + length back) y r) stopped in
    run_is true (t ++ r) at s ∙ ap (ended (at + length (t ++ r))) walked

repeat_stops : (p t r : List ℕ) (n : List ℕ) (names : List (List ℕ)) (vs : List Json) (k : List Frame) (close : ℕ) → NameDue names vs k p → IsText n t → has_name names n ≡ true → close + 1 ≡ length p + length t
    → Stopped (reading (p ++ (t ++ r))) (faults.DuplicateKey (length p)) close
unfolding walk
repeat_stops p t r n [] vs k close h x there c = absurd cc
repeat_stops p t r n (m ∷ names) [] k close h x there c = absurd (let l = h.0 in omega arith)
repeat_stops p t r n (m ∷ names) (v ∷ vs) k close h x there c = by (agree_at_front p s (t ++ r) tt walked)
  where
    s : State
    s = name_due (m ∷ names) (v ∷ vs) k

    walked : walk false 0 (due []) p ≡ go s
    walked = ap (walk false 0 (due [])) (sym (append-nil p)) ∙ (name_eaten m names v vs k p h).eats 0 [] tt

    by : (run true 0 (due []) (p ++ (t ++ r)) ≡ run true (length p) s (t ++ r)) ⊎ Before (run true 0 (due []) (p ++ (t ++ r))) (length p) → Stopped (reading (p ++ (t ++ r))) (faults.DuplicateKey (length p)) close
    by (inl e) = subst (λ y. Stopped y (faults.DuplicateKey (length p)) close) (sym (e ∙ name_stops (length p) (m ∷ names) (v ∷ vs) k n t r close x there c))
        (record { fault = faults.DuplicateKey (length p); at = close; stops = (refl, refl); early = omega arith; same = λ q. refl })
    by (inr e) = let some = text_some n t x in before_stops (reading (p ++ (t ++ r))) (length p) close (faults.DuplicateKey (length p)) (omega arith) e

twice_stops : (bytes : List ℕ) (from close : ℕ) → IsTwice bytes from close → Stopped (reading bytes) (faults.DuplicateKey from) close
twice_stops bytes from close t =
    let l : length (drop from bytes) ≡ length (t.spelling ++ t.rest) = ap (λ (x : List ℕ). length x) t.whole in
    let some = text_some t.name t.spelling t.spelled in
    let len : length (take from bytes) ≡ from = omega (arith, l, length-append t.spelling t.rest, length-drop from bytes, length-take from bytes) in
    let whole : take from bytes ++ (t.spelling ++ t.rest) ≡ bytes = ap (λ (x : List ℕ). take from bytes ++ x) (sym t.whole) ∙ take-append-drop from bytes in
    let c = t.closes in
    let stops = repeat_stops (take from bytes) t.spelling t.rest t.name t.names t.values t.frames close t.due t.spelled (named_there t.names t.name t.there) (omega arith) in
    subst (λ (x : List ℕ). Stopped (reading x) (faults.DuplicateKey from) close) whole (subst (λ m. Stopped (reading (take from bytes ++ (t.spelling ++ t.rest))) (faults.DuplicateKey m) close) len stops)

-- ---- any fault

fault_stops : (bytes : List ℕ) (f : JsonFault) (place : ℕ) → FoundAt bytes f place → Stopped (reading bytes) f place
fault_stops bytes (faults.Json at) place h = subst (λ m. Stopped (reading bytes) (faults.Json at) m) (sym h.0) (bad_stops bytes at h.1)
fault_stops bytes (faults.Deep at) place h = subst (λ m. Stopped (reading bytes) (faults.Deep at) m) (sym h.0) (deep_stops bytes at h.1)
fault_stops bytes (faults.DuplicateKey at) place h = twice_stops bytes at place h
fault_stops bytes faults.Memory place h = absurd h

-- what reading stops by is found there
pub found_there : (bytes : List ℕ) (e : Stop) (f : JsonFault) (place : ℕ) → reading bytes ≡ e → StopsBy e f place → FoundAt bytes f place
found_there bytes (found v n) f place e s = absurd s
found_there bytes (bad n) f place e s = subst (λ g. FoundAt bytes g place) (sym s.0) (s.1, is_bad bytes n e)
found_there bytes (deep n) f place e s = subst (λ g. FoundAt bytes g place) (sym s.0) (s.1, subst (Right bytes) e (reading_right true bytes))
found_there bytes (twice from n) f place e s = subst (λ g. FoundAt bytes g place) (sym s.0) (subst (IsTwice bytes from) (sym s.1) (subst (Right bytes) e (reading_right true bytes)))

one_place : (e : Stop) (f g : JsonFault) (a b : ℕ) → StopsBy e f a → StopsBy e g b → a ≡ b
one_place (found v n) f g a b p q = absurd p
one_place s f g a b p q = p.1 ∙ sym q.1

pub stops_first : (bytes : List ℕ) (f : JsonFault) (place : ℕ) → StopsBy (reading bytes) f place → IsFirst bytes f
stops_first bytes f place s = record {
  place = place;
  found = found_there bytes (reading bytes) f place refl s;
  first = λ g other h.
      let k = fault_stops bytes g other h in
      let l = k.early in
      let same : place ≡ k.at = one_place (reading bytes) f k.fault place k.at s k.stops in
      omega arith;
}

pub first_stops : (bytes : List ℕ) (f : JsonFault) → IsFirst bytes f → (place : ℕ) × StopsBy (reading bytes) f place
first_stops bytes f i =
    let k = fault_stops bytes f i.place i.found in
    let early = k.early in
    let there = found_there bytes (reading bytes) k.fault k.at refl k.stops in
    let late = i.first k.fault k.at there in
    let same : k.fault ≡ f = k.same (omega arith) in
    (k.at, subst (λ g. StopsBy (reading bytes) g k.at) same k.stops)
