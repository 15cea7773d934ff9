-- Reading a whole text.
use Rattle.std.proofs.Common.{◌≡◌, ℕ, ◌+◌, ◌≤◌, Bool, true, false, List, [], ◌∷◌, ◌++◌, length, take, drop, Some, refl, ap, ◌∙◌, sym, subst, arith, append_assoc, ◌⊎◌, inl, inr}
use Rattle.std.specs.Prelude.{slice_get, Contains}
use Rattle.std.specs.Str.{bytes_eq}
use Rattle.std.proofs.lemmas.List.{length-append, take-append-drop, length-take}
use Rattle.std.proofs.Math.Seq.{take-append_seam, drop-append_seam}
use Rattle.std.proofs.lemmas.Map.Views.{Contains-from_any}
use Rattle.std.proofs.lemmas.Slice.Eq.{bytes_eq-Decides}
use Rattle.bt_json.specs.Json.{Json, number}
use Rattle.bt_json.specs.Grammar.{◌▸◌, Blanks, IsValue}
use Rattle.bt_json.specs.Places.{Frame, Due, NameDue}
use Rattle.bt_json.specs.Answers.{EndsBefore, IsFront, IsDeep, IsTwice}
use Rattle.bt_json.specs.inner.Reading.{State, Step, go, stop, Stop, found, bad, deep, twice, step, run, after_step, finish, finish_number, may_end, Numeral, numeral_value, due, in_number, deliver, has_name, reading}
use Rattle.bt_json.specs.declared.kind.Phase.{Phase}
use Rattle.bt_json.proofs.Eating.{eats_then, eats_blanks, walk, run_is, ended}
use Rattle.bt_json.proofs.Eaten.{Allowed, eats_value}
use Rattle.bt_json.proofs.Blanks.{skips_due}
use Rattle.bt_json.proofs.SoundNumbers.{Written, number_whole}
use Rattle.bt_json.proofs.Sound.{Reached, Good, sound_step, NameTwice}
use Rattle.bt_json.proofs.Kept.{Kept, StepKept, step_kept}

-- ---- the text before a place and behind it

pub take_front : (p q : List ℕ) (n : ℕ) → n ≡ length p → take n (p ++ q) ≡ p
take_front p q n e = ap (λ m. take m (p ++ q)) e ∙ take-append_seam p q

drop_front : (p q : List ℕ) (n : ℕ) → n ≡ length p → drop n (p ++ q) ≡ q
drop_front p q n e = ap (λ m. drop m (p ++ q)) e ∙ drop-append_seam p q

pub get_behind : (p : List ℕ) (b : ℕ) (q : List ℕ) (n : ℕ) → n ≡ length p → slice_get (p ++ b ∷ q) n ≡ Some b
get_behind [] b q n e = ap (slice_get (b ∷ q)) e
get_behind (c ∷ p) b q n e = ap (slice_get (c ∷ (p ++ b ∷ q))) e ∙ get_behind p b q (length p) refl

-- ---- how reading ends is right

-- what the end of reading tells of the text
abbrev pub Right : List ℕ → Stop → Type 0
Right bytes (found v n) = IsFront bytes v n
Right bytes (bad n) = n ≤ length bytes
Right bytes (deep n) = IsDeep bytes n
Right bytes (twice from n) = IsTwice bytes from n

pub front_is : (bytes p q : List ℕ) (v : Json) (n : ℕ) → bytes ≡ p ++ q → n ≡ length p → (Blanks ▸ IsValue v) p → EndsBefore v q → IsFront bytes v n
front_is bytes p q v n w e j h = record {
  within = rw w (omega (arith, length-append p q));
  spelled = subst (Blanks ▸ IsValue v) (sym (ap (take n) w ∙ take_front p q n e)) j;
  ends = subst (EndsBefore v) (sym (ap (drop n) w ∙ drop_front p q n e)) h;
}

same_bytes : (x y : List ℕ) → bytes_eq x y ≡ true → x ≡ y
same_bytes x y e = (bytes_eq-Decides x y).0 e

pub named : (names : List (List ℕ)) (n : List ℕ) → has_name names n ≡ true → Contains names n
named names n e = Contains-from_any same_bytes n names e

finish_right : (at : ℕ) (n : Numeral) (k : List Frame) (p : List ℕ) (phase : Phase) (b : Bool) → may_end phase ≡ b → at ≡ length p → (Due k ▸ Written phase n) p → Right (p ++ []) (finish_number at n k b)
finish_right at n [] p phase true e len j = front_is (p ++ []) p [] (number (numeral_value n)) at refl len (record { front = j.front; back = j.back; first = j.first; second = number_whole phase n j.back e j.second; whole = j.whole }) tt
finish_right at n [] p phase false e len j = omega (arith, length-append p [])
finish_right at n (f ∷ k) p phase true e len j = omega (arith, length-append p [])
finish_right at n (f ∷ k) p phase false e len j = omega (arith, length-append p [])

end_right : (at : ℕ) (s : State) (p : List ℕ) → at ≡ length p → Reached s p → Right (p ++ []) (finish at s)
end_right at (in_number phase n k) p len h = finish_right at n k p phase (may_end phase) refl len h
end_right at s p len h = omega (arith, length-append p [])

pub regroup : (p : List ℕ) (b : ℕ) (q : List ℕ) → p ++ (b ∷ q) ≡ (p ++ b ∷ []) ++ q
regroup p b q = sym (append_assoc p (b ∷ []) q)

twice_right : (from at b : ℕ) (p q : List ℕ) → at ≡ length p → NameTwice from (p ++ b ∷ []) → IsTwice (p ++ (b ∷ q)) from at
twice_right from at b p q len t =
    let whole : p ++ (b ∷ q) ≡ t.front ++ (t.spelling ++ q) = regroup p b q ∙ ap (λ (x : List ℕ). x ++ q) t.whole ∙ append_assoc t.front t.spelling q in
    let lens : length (p ++ b ∷ []) ≡ length (t.front ++ t.spelling) = ap (λ (x : List ℕ). length x) t.whole in
    record {
      names = t.names;
      values = t.values;
      frames = t.frames;
      name = t.name;
      spelling = t.spelling;
      rest = q;
      due = subst (NameDue t.names t.values t.frames) (sym (ap (take from) whole ∙ take_front t.front (t.spelling ++ q) from (sym t.place))) t.due_name;
      spelled = t.spelled;
      whole = ap (drop from) whole ∙ drop_front t.front (t.spelling ++ q) from (sym t.place);
      closes = let a = t.place in omega (arith, lens, length-append p (b ∷ []), length-append t.front t.spelling);
      there = named t.names t.name t.there;
    }

pub run_right : (strict : Bool) (bytes : List ℕ) (at : ℕ) (s : State) (p : List ℕ) → at ≡ length p → Reached s p → Right (p ++ bytes) (run strict at s bytes)
unfolding run
run_right strict [] at s p len h = end_right at s p len h
run_right strict (b ∷ bytes) at s p len h = by (step strict at b s) (sound_step strict at b s p len h) (λ t g. run_right strict bytes (at + 1) t (p ++ b ∷ []) (omega (arith, length-append p (b ∷ []))) g)
  where
    bracket : {n : ℕ} → (b ≡ 91) ⊎ (b ≡ 123) → n ≡ length p → (slice_get (p ++ (b ∷ bytes)) n ≡ Some 91) ⊎ (slice_get (p ++ (b ∷ bytes)) n ≡ Some 123)
    bracket {n} (inl e) l = inl (get_behind p b bytes n l ∙ ap (λ x. Some x) e)
    bracket {n} (inr e) l = inr (get_behind p b bytes n l ∙ ap (λ x. Some x) e)

    by : (next : Step) → Good at b p next → ((t : State) → Reached t (p ++ b ∷ []) → Right ((p ++ b ∷ []) ++ bytes) (run strict (at + 1) t bytes)) → Right (p ++ (b ∷ bytes)) (after_step next (λ t. run strict (at + 1) t bytes))
    by (go t) g rest = subst (λ x. Right x (run strict (at + 1) t bytes)) (sym (regroup p b bytes)) (rest t g)
    by (stop (found v n)) (inl g) rest = front_is (p ++ (b ∷ bytes)) (p ++ b ∷ []) bytes v n (regroup p b bytes) (let e = g.0 in omega (arith, length-append p (b ∷ []))) g.1 (g.2 bytes)
    by (stop (found v n)) (inr g) rest = front_is (p ++ (b ∷ bytes)) p (b ∷ bytes) v n refl (g.0 ∙ len) g.1 (g.2 bytes)
    by (stop (bad n)) g rest = omega (arith, length-append p (b ∷ bytes))
    by (stop (deep n)) g rest = record {
      frames = g.1.frames;
      levels = g.1.levels;
      due = subst (Due g.1.frames) (sym (take_front p (b ∷ bytes) n (g.0 ∙ len))) g.1.due_value;
      opens = bracket g.1.opens (g.0 ∙ len);
    }
    by (stop (twice from n)) g rest = subst (IsTwice (p ++ (b ∷ bytes)) from) (sym g.0) (twice_right from at b p bytes len g.1)

pub reading_right : (strict : Bool) (bytes : List ℕ) → Right bytes (run strict 0 (due []) bytes)
reading_right strict bytes = run_right strict bytes 0 (due []) [] refl tt

-- ---- a value that strict reading finds is within the limits

finish_kept : (at : ℕ) (s : State) (v : Json) (n : ℕ) → finish at s ≡ found v n → Allowed true 0 v
finish_kept at (in_number phase m k) v n e = by k (may_end phase) e
  where
    by : (f : List Frame) (b : Bool) → finish_number at m f b ≡ found v n → Allowed true 0 v
    by [] true q = let same : number (numeral_value m) ≡ v = cc in subst (Allowed true 0) same (omega arith, tt)
    by [] false q = absurd cc
    by (f ∷ fs) true q = absurd cc
    by (f ∷ fs) false q = absurd cc
finish_kept at s v n e = absurd cc

run_kept : (bytes : List ℕ) (at : ℕ) (s : State) (v : Json) (n : ℕ) → Kept s → run true at s bytes ≡ found v n → Allowed true 0 v
unfolding run
run_kept [] at s v n h e = finish_kept at s v n e
run_kept (b ∷ bytes) at s v n h e = by (step true at b s) (step_kept at b s h) e (λ t g q. run_kept bytes (at + 1) t v n g q)
  where
    by : (next : Step) → StepKept next → after_step next (λ t. run true (at + 1) t bytes) ≡ found v n → ((t : State) → Kept t → run true (at + 1) t bytes ≡ found v n → Allowed true 0 v) → Allowed true 0 v
    by (go t) g q rest = rest t g q
    by (stop (found w m)) g q rest = let same : w ≡ v = cc in subst (Allowed true 0) same g
    by (stop (bad m)) g q rest = absurd cc
    by (stop (deep m)) g q rest = absurd cc
    by (stop (twice from m)) g q rest = absurd cc

pub found_allowed : (bytes : List ℕ) (v : Json) (n : ℕ) → reading bytes ≡ found v n → Allowed true 0 v
found_allowed bytes v n e = run_kept bytes 0 (due []) v n (omega arith, tt) e

-- ---- what the grammar has at the front is found

pub finds : (strict : Bool) (bytes : List ℕ) (v : Json) (n : ℕ) → Allowed strict 0 v → IsFront bytes v n → run strict 0 (due []) bytes ≡ found v n
finds strict bytes v n a f =
    let j = f.spelled in
    let value = eats_value strict [] v j.back a j.second in
    let both = eats_then strict (due []) (due []) j.front j.back (deliver v []) (EndsBefore v) (eats_blanks strict (due []) j.front (skips_due strict []) j.first) value in
    let len : 0 + length (j.front ++ j.back) ≡ n = sym (let l = ap (λ (x : List ℕ). length x) j.whole in let w = f.within in omega (arith, length-take n bytes, l)) in
    let whole : (j.front ++ j.back) ++ drop n bytes ≡ bytes = ap (λ (x : List ℕ). x ++ drop n bytes) (sym j.whole) ∙ take-append-drop n bytes in
    let led : walk strict 0 (due []) bytes ≡ stop (found v n) = ap (walk strict 0 (due [])) (sym whole) ∙ both.eats 0 (drop n bytes) f.ends ∙ ap (λ m. stop (found v m)) len in
    run_is strict bytes 0 (due []) ∙ ap (ended (0 + length bytes)) led
