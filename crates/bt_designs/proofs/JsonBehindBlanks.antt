-- JSON text behind blanks: what is read of it, so many bytes later.
use Rattle.std.proofs.Common.{◌≡◌, ◌⊎◌, ℕ, zero, suc, ◌+◌, ◌-◌, ◌<◌, ◌≤◌, false, List, [], ◌∷◌, ◌++◌, length, take, drop, Some, Result, Ok, Err, refl, ap, ◌∙◌, sym, subst, inl, inr, arith}
use Rattle.std.specs.Prelude.{slice_get, codes}
use Rattle.std.proofs.lemmas.List.{append_assoc, length-append, length-take, length-drop, take-append-drop, take-append-le}
use Rattle.std.proofs.lemmas.Bool.{cases_lt}
use Rattle.std.proofs.lemmas.Option.{slice_get_within}
use Rattle.std.proofs.Math.Seq.{take-append_seam, take-append-add, drop-append_seam, drop-append-add}
use Rattle.bt_json.specs.Json.{Json, null}
use Rattle.bt_json.specs.Grammar.{◌▸◌, Blanks, IsValue, is_blank}
use Rattle.bt_json.specs.Places.{Frame, in_list, in_object, Begun, Due, NameDue}
use Rattle.bt_json.specs.Answers.{EndsBefore, IsFront, HasValue, IsBad, IsDeep, IsTwice, FoundAt, IsFirst, IsRead}
use Rattle.bt_json.specs.declared.fault.JsonFault.{JsonFault}
use Rattle.bt_json.specs.declared.fault.JsonFault.TheVariants as faults
use Rattle.bt_designs.specs.inner.Moved.{moved_fault, moved_read}
use Rattle.bt_json.proofs.FirstBytes.{value_begins}

-- ---- blanks

more_blank : (b t : List ℕ) → Blanks b → Blanks t → Blanks (b ++ t)
more_blank [] t p q = q
more_blank (x ∷ b) t p q = (p.0, more_blank b t p.1 q)

less_blank : (b t : List ℕ) → Blanks (b ++ t) → Blanks t
less_blank [] t p = p
less_blank (x ∷ b) t p = less_blank b t p.1

blank_front : (k : ℕ) (b : List ℕ) → Blanks b → Blanks (take k b)
blank_front zero b p = tt
blank_front (suc k) [] p = tt
blank_front (suc k) (x ∷ b) p = (p.0, blank_front k b p.1)

-- what stands before a byte that is no blank has all the blanks in front
pub split : (b t front : List ℕ) (c : ℕ) (rest : List ℕ) → Blanks b → is_blank c ≡ false → b ++ t ≡ front ++ c ∷ rest → (f : List ℕ) × (front ≡ b ++ f) × (t ≡ f ++ c ∷ rest)
split [] t front c rest p other e = (front, refl, e)
split (x ∷ b) t [] c rest p other e = let same : x ≡ c = cc in absurd (cc (sym p.0 ∙ ap is_blank same ∙ other))
split (x ∷ b) t (y ∷ front) c rest p other e = let more = split b t front c rest p.1 other cc in (more.0, let h = more.1 in cc, more.2)

-- ---- where a value or a name is due

begun_first : (f : Frame) (t : List ℕ) → Begun f t → (c : ℕ) × (rest : List ℕ) × (t ≡ c ∷ rest) × (is_blank c ≡ false)
begun_first (in_list vs) t j = (91, j.back, j.whole ∙ ap (λ x. x ++ j.back) j.first, refl)
begun_first (in_object names vs) t h = (123, h.1.back, h.1.whole ∙ ap (λ x. x ++ h.1.back) h.1.first, refl)

due_behind : (k : List Frame) (b t : List ℕ) → Blanks b → Due k t → Due k (b ++ t)
due_behind [] b t p h = more_blank b t p h
due_behind (f ∷ k) b t p j = record {
  front = b ++ j.front;
  back = j.back;
  first = due_behind k b j.front p j.first;
  second = j.second;
  whole = ap (λ x. b ++ x) j.whole ∙ sym (append_assoc b j.front j.back);
}

due_before : (k : List Frame) (b t : List ℕ) → Blanks b → Due k (b ++ t) → Due k t
due_before [] b t p h = less_blank b t h
due_before (f ∷ k) b t p j =
    let begins = begun_first f j.back j.second in
    let s = split b t j.front begins.0 begins.1 p begins.3 (j.whole ∙ ap (λ x. j.front ++ x) begins.2) in
    record {
      front = s.0;
      back = j.back;
      first = due_before k b s.0 p (subst (Due k) s.1 j.first);
      second = j.second;
      whole = s.2 ∙ ap (λ x. s.0 ++ x) (sym begins.2);
    }

name_behind : (names : List (List ℕ)) (vs : List Json) (k : List Frame) (b t : List ℕ) → Blanks b → NameDue names vs k t → NameDue names vs k (b ++ t)
name_behind names vs k b t p (same, j) = (
  same,
  record {
    front = b ++ j.front;
    back = j.back;
    first = due_behind k b j.front p j.first;
    second = j.second;
    whole = ap (λ x. b ++ x) j.whole ∙ sym (append_assoc b j.front j.back);
  },
)

name_before : (names : List (List ℕ)) (vs : List Json) (k : List Frame) (b t : List ℕ) → Blanks b → NameDue names vs k (b ++ t) → NameDue names vs k t
name_before names vs k b t p (same, j) =
    let begins = j.second.whole ∙ ap (λ x. x ++ j.second.back) j.second.first in
    let s = split b t j.front 123 j.second.back p refl (j.whole ∙ ap (λ x. j.front ++ x) begins) in (
      same,
      record {
        front = s.0;
        back = j.back;
        first = due_before k b s.0 p (subst (Due k) s.1 j.first);
        second = j.second;
        whole = s.2 ∙ ap (λ x. s.0 ++ x) (sym begins);
      },
    )

-- ---- values

front_behind : (b t : List ℕ) (v : Json) (after : ℕ) → Blanks b → IsFront t v after → IsFront (b ++ t) v (length b + after)
front_behind b t v after p f = let j = f.spelled in record {
  within = omega (arith, length-append b t, f.within);
  spelled = subst (Blanks ▸ IsValue v) (sym (take-append-add b t after)) (record {
    front = b ++ j.front;
    back = j.back;
    first = more_blank b j.front p j.first;
    second = j.second;
    whole = ap (λ x. b ++ x) j.whole ∙ sym (append_assoc b j.front j.back);
  });
  ends = subst (EndsBefore v) (sym (drop-append-add b t after)) f.ends;
}

value_behind : (b t : List ℕ) → Blanks b → HasValue t → HasValue (b ++ t)
value_behind b t p (v, after, f) = (v, length b + after, front_behind b t v after p f)

value_before : (b t : List ℕ) → Blanks b → HasValue (b ++ t) → HasValue t
value_before b t p (v, after, f) =
    let j = f.spelled in
    let g = value_begins v j.back j.second in
    let d = drop after (b ++ t) in
    let whole : b ++ t ≡ j.front ++ g.byte ∷ (g.rest ++ d) =
    sym (take-append-drop after (b ++ t)) ∙ ap (λ x. x ++ d) (j.whole ∙ ap (λ x. j.front ++ x) g.text_is) ∙ append_assoc j.front (g.byte ∷ g.rest) d in
    let s = split b t j.front g.byte (g.rest ++ d) p g.no_blank whole in
    let here : t ≡ (s.0 ++ j.back) ++ d = s.2 ∙ ap (λ x. s.0 ++ (x ++ d)) (sym g.text_is) ∙ sym (append_assoc s.0 j.back d) in (
      v,
      length (s.0 ++ j.back),
      record {
        within = omega (arith, ap length here, length-append (s.0 ++ j.back) d);
        spelled = subst (Blanks ▸ IsValue v) (sym (ap (take (length (s.0 ++ j.back))) here ∙ take-append_seam (s.0 ++ j.back) d))
            (record { front = s.0; back = j.back; first = less_blank b s.0 (subst Blanks s.1 j.first); second = j.second; whole = refl });
        ends = subst (EndsBefore v) (sym (ap (drop (length (s.0 ++ j.back))) here ∙ drop-append_seam (s.0 ++ j.back) d)) f.ends;
      },
    )

null_value : HasValue (codes "null")
null_value = (null, 4, record { within = omega arith; spelled = record { front = []; back = codes "null"; first = tt; second = refl; whole = refl }; ends = tt })

-- ---- faults

module _ (b t : List ℕ) (p : Blanks b) where
  taken : (at : ℕ) (more : List ℕ) → take (length b + at + 1) (b ++ t) ++ more ≡ b ++ (take (at + 1) t ++ more)
  taken at more =
      let n : length b + at + 1 ≡ length b + (at + 1) = omega arith in
      ap (λ k. take k (b ++ t) ++ more) n ∙ ap (λ x. x ++ more) (take-append-add b t (at + 1)) ∙ append_assoc b (take (at + 1) t) more

  bad_behind : (at : ℕ) → IsBad t at → IsBad (b ++ t) (length b + at)
  bad_behind at (inl (few, none)) = inl (omega (arith, few, length-append b t), λ more h. none more (value_before b (take (at + 1) t ++ more) p (subst HasValue (taken at more) h)))
  bad_behind at (inr (end, none)) = inr (omega (arith, end, length-append b t), λ h. none (value_before b t p h))

  bad_before : (at : ℕ) → IsBad (b ++ t) (length b + at) → IsBad t at
  bad_before at (inl (few, none)) = inl (omega (arith, few, length-append b t), λ more h. none more (subst HasValue (sym (taken at more)) (value_behind b (take (at + 1) t ++ more) p h)))
  bad_before at (inr (end, none)) = inr (omega (arith, end, length-append b t), λ h. none (value_behind b t p h))

  -- no blank in front is bad
  bad_within : (at : ℕ) → at < length b → IsBad (b ++ t) at → ⊥
  bad_within at few (inl (in_text, none)) =
      let front : take (at + 1) (b ++ t) ≡ take (at + 1) b = take-append-le (at + 1) b t (omega arith) in
      none (codes "null") (subst HasValue (ap (λ x. x ++ codes "null") (sym front)) (value_behind (take (at + 1) b) (codes "null") (blank_front (at + 1) b p) null_value))
  bad_within at few (inr (end, none)) = omega (arith, few, end, length-append b t)

  get_behind : (c : List ℕ) (k : ℕ) → slice_get (c ++ t) (length c + k) ≡ slice_get t k
  get_behind [] k = let n : 0 + k ≡ k = omega arith in ap (slice_get t) n
  get_behind (x ∷ c) k = let n : suc (length c) + k ≡ suc (length c + k) = omega arith in ap (slice_get (x ∷ (c ++ t))) n ∙ get_behind c k

  deep_behind : (at : ℕ) → IsDeep t at → IsDeep (b ++ t) (length b + at)
  deep_behind at d = record {
    frames = d.frames;
    levels = d.levels;
    due = subst (Due d.frames) (sym (take-append-add b t at)) (due_behind d.frames b (take at t) p d.due);
    opens = by d.opens;
  }
    where
      by : (slice_get t at ≡ Some 91) ⊎ (slice_get t at ≡ Some 123) → (slice_get (b ++ t) (length b + at) ≡ Some 91) ⊎ (slice_get (b ++ t) (length b + at) ≡ Some 123)
      by (inl e) = inl (get_behind b at ∙ e)
      by (inr e) = inr (get_behind b at ∙ e)

  at_byte : (l : List ℕ) (i c : ℕ) → slice_get l i ≡ Some c → (rest : List ℕ) × (l ≡ take i l ++ c ∷ rest)
  at_byte [] i c e = absurd (omega (arith, slice_get_within [] i c e))
  at_byte (x ∷ l) zero c e = let same : x ≡ c = cc in (l, ap (λ y. y ∷ l) same)
  at_byte (x ∷ l) (suc i) c e = let more = at_byte l i c e in (more.0, ap (λ y. x ∷ y) more.1)

  -- the place of a byte that is no blank, counted behind the blanks
  pub record Place (at c : ℕ) (rest : List ℕ) : Type 0 where
    pub front : List ℕ
    pub before : take at (b ++ t) ≡ b ++ front
    pub here : t ≡ front ++ c ∷ rest
    pub at_is : at ≡ length b + length front

  place_of : (at c : ℕ) (rest : List ℕ) → is_blank c ≡ false → at ≤ length (b ++ t) → b ++ t ≡ take at (b ++ t) ++ c ∷ rest → Place at c rest
  place_of at c rest other within e = let s = split b t (take at (b ++ t)) c rest p other e in record {
    front = s.0;
    before = s.1;
    here = s.2;
    at_is = let l = length-take at (b ++ t) in let m = ap length s.1 in let k = length-append b s.0 in grind (arith, l, m, k, within);
  }

  module _ (at c : ℕ) (rest : List ℕ) (place : Place at c rest) where
    front_is : take (length place.front) t ≡ place.front
    front_is = ap (take (length place.front)) place.here ∙ take-append_seam place.front (c ∷ rest)

    rest_is : drop (length place.front) t ≡ c ∷ rest
    rest_is = ap (drop (length place.front)) place.here ∙ drop-append_seam place.front (c ∷ rest)

  deep_before : (at : ℕ) → IsDeep (b ++ t) at → (k : ℕ) × (at ≡ length b + k) × IsDeep t k
  deep_before at d = by d.opens
    where
      at_place : (c : ℕ) → is_blank c ≡ false → slice_get (b ++ t) at ≡ Some c → (rest : List ℕ) × Place at c rest
      at_place c other e =
          let within = slice_get_within (b ++ t) at c e in
          let byte = at_byte (b ++ t) at c e in
          (byte.0, place_of at c byte.0 other (omega (arith, within)) byte.1)

      found : (c : ℕ) (rest : List ℕ) → Place at c rest → ((slice_get t (at - length b) ≡ Some 91) ⊎ (slice_get t (at - length b) ≡ Some 123)) → (k : ℕ) × (at ≡ length b + k) × IsDeep t k
      found c rest place opens =
          let k : at - length b ≡ length place.front = omega (arith, place.at_is) in (
            length place.front,
            place.at_is,
            record {
              frames = d.frames;
              levels = d.levels;
              due = subst (Due d.frames) (sym (front_is at c rest place)) (due_before d.frames b place.front p (subst (Due d.frames) place.before d.due));
              opens = subst (λ x. (slice_get t x ≡ Some 91) ⊎ (slice_get t x ≡ Some 123)) k opens;
            },
          )

      same_byte : (c : ℕ) (rest : List ℕ) → Place at c rest → slice_get (b ++ t) at ≡ Some c → slice_get t (at - length b) ≡ Some c
      same_byte c rest place e =
          let n : at ≡ length b + (at - length b) = omega (arith, place.at_is) in sym (get_behind b (at - length b)) ∙ ap (slice_get (b ++ t)) (sym n) ∙ e

      by : (slice_get (b ++ t) at ≡ Some 91) ⊎ (slice_get (b ++ t) at ≡ Some 123) → (k : ℕ) × (at ≡ length b + k) × IsDeep t k
      by (inl e) = let x = at_place 91 refl e in found 91 x.0 x.1 (inl (same_byte 91 x.0 x.1 e))
      by (inr e) = let x = at_place 123 refl e in found 123 x.0 x.1 (inr (same_byte 123 x.0 x.1 e))

  twice_behind : (at close : ℕ) → IsTwice t at close → IsTwice (b ++ t) (length b + at) (length b + close)
  twice_behind at close d = record {
    names = d.names;
    values = d.values;
    frames = d.frames;
    name = d.name;
    spelling = d.spelling;
    rest = d.rest;
    due = subst (NameDue d.names d.values d.frames) (sym (take-append-add b t at)) (name_behind d.names d.values d.frames b (take at t) p d.due);
    spelled = d.spelled;
    whole = drop-append-add b t at ∙ d.whole;
    closes = omega (arith, d.closes);
    there = d.there;
  }

  twice_before : (at close : ℕ) → IsTwice (b ++ t) at close → (k : ℕ) × (m : ℕ) × (at ≡ length b + k) × (close ≡ length b + m) × IsTwice t k m
  twice_before at close d =
      let j = d.spelled.spelled in
      let begins : d.spelling ≡ 34 ∷ j.back = j.whole ∙ ap (λ x. x ++ j.back) j.first in
      let tail : drop at (b ++ t) ≡ 34 ∷ (j.back ++ d.rest) = d.whole ∙ ap (λ x. x ++ d.rest) begins in
      let within : at ≤ length (b ++ t) = omega (arith, length-drop at (b ++ t), ap length tail) in
      let place = place_of at 34 (j.back ++ d.rest) refl within (sym (take-append-drop at (b ++ t)) ∙ ap (λ x. take at (b ++ t) ++ x) tail) in (
        length place.front,
        length place.front + length j.back,
        place.at_is,
        omega (arith, place.at_is, d.closes, ap length begins),
        record {
          names = d.names;
          values = d.values;
          frames = d.frames;
          name = d.name;
          spelling = d.spelling;
          rest = d.rest;
          due = subst (NameDue d.names d.values d.frames) (sym (front_is at 34 (j.back ++ d.rest) place))
              (name_before d.names d.values d.frames b place.front p (subst (NameDue d.names d.values d.frames) place.before d.due));
          spelled = d.spelled;
          whole = rest_is at 34 (j.back ++ d.rest) place ∙ ap (λ x. x ++ d.rest) (sym begins);
          closes = omega (arith, ap length begins);
          there = d.there;
        },
      )

  found_behind : (f : JsonFault) (place : ℕ) → FoundAt t f place → FoundAt (b ++ t) (moved_fault (length b) f) (length b + place)
  found_behind (faults.Json at) place (e, bad) = (ap (λ k. length b + k) e, bad_behind at bad)
  found_behind (faults.Deep at) place (e, deep) = (ap (λ k. length b + k) e, deep_behind at deep)
  found_behind (faults.DuplicateKey at) place twice = twice_behind at place twice
  found_behind faults.Memory place h = absurd h

  -- the first fault of the text is that of the blanks and the text
  first_behind : (f : JsonFault) → IsFirst t f → IsFirst (b ++ t) (moved_fault (length b) f)
  first_behind f r = record { place = length b + r.place; found = found_behind f r.place r.found; first = by }
    where
      bad_later : (at : ℕ) → IsBad (b ++ t) at → (at < length b) ⊎ (length b ≤ at) → length b + r.place ≤ at
      bad_later at bad (inl few) = absurd (bad_within at few bad)
      bad_later at bad (inr many) =
          let k : at ≡ length b + (at - length b) = omega (arith, many) in
          let before = bad_before (at - length b) (subst (IsBad (b ++ t)) k bad) in
          omega (arith, r.first (faults.Json (at - length b)) (at - length b) (refl, before), many)

      by : (g : JsonFault) (other : ℕ) → FoundAt (b ++ t) g other → length b + r.place ≤ other
      by (faults.Json at) other (e, bad) = let later = bad_later at bad (cases_lt at (length b)) in omega (arith, later, e)
      by (faults.Deep at) other (e, deep) = let d = deep_before at deep in omega (arith, r.first (faults.Deep d.0) d.0 (refl, d.2), d.1, e)
      by (faults.DuplicateKey at) other twice = let d = twice_before at other twice in omega (arith, r.first (faults.DuplicateKey d.0) d.1 d.4, d.3)
      by faults.Memory other h = absurd h

-- what is read of a text is read of blanks and the text, so many bytes later
pub behind_blanks_is_read : (b t : List ℕ) (answer : Result (Json × ℕ) JsonFault) → Blanks b → IsRead t answer → IsRead (b ++ t) (moved_read (length b) answer)
behind_blanks_is_read b t (Ok read) p h = record { front = front_behind b t read.0 read.1 p h.front; shallow = h.shallow; distinct = h.distinct }
behind_blanks_is_read b t (Err fault) p h = first_behind b t p fault h
