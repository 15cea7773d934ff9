-- A text has one right answer: how reading it byte by byte ends.
use Rattle.std.proofs.Common.{◌≡◌, ℕ, true, List, [], refl, sym, ap, subst, ◌∙◌, arith, inl, inr}
use Rattle.std.specs.Prelude.{Result, Ok, Err}
use Rattle.bt_text.specs.Answers.{seen, UnlessMemory, Answers, HasOneAnswer}
use Rattle.bt_text.proofs.OneAnswer.{answers_of}
use Rattle.bt_json.specs.Json.{Json}
use Rattle.bt_json.specs.Stands.{value_and_place}
use Rattle.bt_json.specs.inner.Nested.{ReadsValue}
use Rattle.bt_json.specs.declared.tree.Tree.{Tree}
use Rattle.bt_json.specs.Answers.{IsRead}
use Rattle.bt_json.specs.inner.Reading.{Stop, found, bad, deep, twice, reading}
use Rattle.bt_json.specs.inner.Running.{ends_as, Faults}
use Rattle.bt_json.specs.declared.fault.JsonFault.{JsonFault}
use Rattle.bt_json.specs.declared.fault.JsonFault.TheVariants as faults
use Rattle.bt_json.proofs.Whole.{Right, reading_right, found_allowed, finds}
use Rattle.bt_json.proofs.Lenient.{StopsBy}
use Rattle.bt_json.proofs.Events.{stops_first, first_stops}

-- how reading ends is a right answer
end_is_right : (bytes : List ℕ) (e : Stop) → reading bytes ≡ e → IsRead bytes (ends_as e)
end_is_right bytes (found v n) e =
    let allowed = found_allowed bytes v n e in
    record { front = subst (Right bytes) e (reading_right true bytes); shallow = omega (arith, allowed.0); distinct = allowed.1 }
end_is_right bytes (bad n) e = stops_first bytes (faults.Json n) n (subst (λ x. StopsBy x (faults.Json n) n) (sym e) (refl, refl))
end_is_right bytes (deep n) e = stops_first bytes (faults.Deep n) n (subst (λ x. StopsBy x (faults.Deep n) n) (sym e) (refl, refl))
end_is_right bytes (twice from n) e = stops_first bytes (faults.DuplicateKey from) n (subst (λ x. StopsBy x (faults.DuplicateKey from) n) (sym e) (refl, refl))

as_told : (e : Stop) (f : JsonFault) (place : ℕ) → StopsBy e f place → ends_as e ≡ Err f
as_told (found v n) f place s = absurd s
as_told state f place s = ap Err (sym s.0)

-- a right answer is how reading ends
right_is_end : (bytes : List ℕ) (answer : Result (Json × ℕ) JsonFault) → IsRead bytes answer → ends_as (reading bytes) ≡ answer
right_is_end bytes (Ok r) h = ap ends_as (finds true bytes r.0 r.1 ((let q = h.shallow in omega arith), h.distinct) h.front)
right_is_end bytes (Err f) h = let s = first_stops bytes f h in as_told (reading bytes) f s.0 s.1

pub one_read : (bytes : List ℕ) → HasOneAnswer (IsRead bytes)
one_read bytes a b right other = sym (right_is_end bytes a right) ∙ right_is_end bytes b other

-- what is told of how reading ends is the answer
pub read_answers : (bytes : List ℕ) (told : Result (Json × ℕ) JsonFault) → UnlessMemory faults.Memory (λ t. t ≡ ends_as (reading bytes)) told → Answers faults.Memory (IsRead bytes) told
read_answers bytes told h = answers_of faults.Memory (IsRead bytes) (one_read bytes) told (right told h)
  where
    is_right : IsRead bytes (ends_as (reading bytes))
    is_right = end_is_right bytes (reading bytes) refl

    right : (t : Result (Json × ℕ) JsonFault) → UnlessMemory faults.Memory (λ u. u ≡ ends_as (reading bytes)) t → UnlessMemory faults.Memory (IsRead bytes) t
    right (Ok r) e = subst (IsRead bytes) (sym e) is_right
    right (Err f) (inl e) = inl (subst (IsRead bytes) (sym e) is_right)
    right (Err f) (inr e) = inr e

fault_told : (f : JsonFault) (e : Stop) → Faults f e → UnlessMemory faults.Memory (λ t. t ≡ ends_as e) (Err f)
fault_told (faults.Json at) e h = inl (sym (ap ends_as h))
fault_told (faults.Deep at) e h = inl (sym (ap ends_as h))
fault_told (faults.DuplicateKey at) e h = inl (sym (ap ends_as h.1))
fault_told faults.Memory e h = inr refl

-- what the reader of values gives at the front is how reading ends
pub front_told : (bytes : List ℕ) (r : Result (Tree × ℕ) JsonFault) → ReadsValue bytes 0 0 r → UnlessMemory faults.Memory (λ t. t ≡ ends_as (reading bytes)) (seen value_and_place r)
front_told bytes (Ok x) h = sym (ap ends_as (h.1 (record { frames = []; count = refl })))
front_told bytes (Err f) h = fault_told f (reading bytes) (h (record { frames = []; count = refl }))
