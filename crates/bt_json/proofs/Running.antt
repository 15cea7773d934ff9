-- How reading goes on from a place, byte by byte.
use Rattle.std.proofs.Common.{◌≡◌, ℕ, ◌+◌, ◌-◌, ◌<◌, ◌≤◌, Bool, true, false, List, [], ◌∷◌, length, drop, get_or, refl, ap, ◌∙◌, sym, subst, arith, drop-cons, add-one, ◌==◌, ◌≢◌, eq-eqb, inl, inr, cond}
use Rattle.std.proofs.lemmas.Bool.{cases_lt, false_from_ne_true, eqb-true}
use Rattle.bt_json.specs.Json.{Json, number}
use Rattle.std.proofs.lemmas.List.{drop_all}
use Rattle.bt_json.specs.Grammar.{is_blank}
use Rattle.bt_json.specs.inner.Reading.{State, go, Stop, bad, step, after_step, run, finish, Frame, in_word, word_left, deliver, stop, Numeral, in_number, goes_on, ends, wrong, step_number, step_in_number, step_past, behind, numeral_value, finish_number, may_end, due, step_due, numeral, first_phase}
use Rattle.bt_json.specs.declared.kind.Kind.TheVariants.{Digit}
use Rattle.bt_json.specs.inner.Bytes.{kind_of, mark_of}
use Rattle.bt_json.specs.declared.kind.Phase.{Phase}
use Rattle.bt_json.specs.inner.Running.{SkipsBlanks, rest_of, rest_after, Faults}
use Rattle.std.specs.Prelude.{IfOk, IfErr, Result, Ok, Err}
use Rattle.bt_json.specs.declared.fault.JsonFault.{JsonFault}

pub run_more : (strict : Bool) (at : ℕ) (s : State) (bytes : List ℕ) → at < length bytes → run strict at s (drop at bytes) ≡ after_step (step strict at (get_or bytes at 0) s) (λ t. run strict (at + 1) t (drop (at + 1) bytes))
unfolding run
run_more strict at s bytes lt = rw (drop-cons bytes at 0, add-one) refl

run_end : (strict : Bool) (at : ℕ) (s : State) (bytes : List ℕ) → length bytes ≤ at → run strict at s (drop at bytes) ≡ finish at s
unfolding run
run_end strict at s bytes le = rw (drop_all at bytes le) refl

-- the next step of reading
pub rest_more : (bytes : List ℕ) (at : ℕ) (s : State) → at < length bytes → rest_of bytes at s ≡ rest_after bytes (at + 1) (step true at (get_or bytes at 0) s)
rest_more bytes at s lt = run_more true at s bytes lt

pub rest_end : (bytes : List ℕ) (at : ℕ) (s : State) → length bytes ≤ at → rest_of bytes at s ≡ finish at s
rest_end bytes at s le = run_end true at s bytes le

pub skip_one : (bytes : List ℕ) (start at : ℕ) (s : State) → SkipsBlanks true s → at < length bytes → is_blank (get_or bytes at 0) ≡ true → rest_of bytes start s ≡ rest_of bytes at s → rest_of bytes start s ≡ rest_of bytes (at + 1) s
skip_one bytes start at s skips lt blank so_far =
    so_far ∙ rest_more bytes at s lt ∙ ap (rest_after bytes (at + 1)) (skips.skips at (get_or bytes at 0) blank)

-- ---- words

pub word_begins : (bytes : List ℕ) (at : ℕ) (letters : List ℕ) → 0 < length letters → (v : Json) (k : List Frame) → rest_of bytes at (in_word letters v k) ≡ rest_after bytes at (word_left (drop 0 letters) v k at)
word_begins bytes at [] lt v k = absurd (omega arith)
word_begins bytes at (c ∷ left) lt v k = refl

word_at : (letters : List ℕ) (i : ℕ) (v : Json) (k : List Frame) (at : ℕ) → i < length letters → word_left (drop i letters) v k at ≡ go (in_word (get_or letters i 0 ∷ drop (i + 1) letters) v k)
word_at letters i v k at lt = rw (drop-cons letters i 0, add-one) refl

pub word_goes_on : (bytes : List ℕ) (at : ℕ) (letters : List ℕ) (i : ℕ) (v : Json) (k : List Frame) (e : Stop) → i < length letters → at < length bytes → get_or bytes at 0 ≡ get_or letters i 0
    → e ≡ rest_after bytes at (word_left (drop i letters) v k at) → e ≡ rest_after bytes (at + 1) (word_left (drop (i + 1) letters) v k (at + 1))
unfolding step
word_goes_on bytes at letters i v k e lt lt' same so_far =
    let test : (get_or bytes at 0 == get_or letters i 0) ≡ true = eq-eqb _ _ same in
    so_far ∙ ap (rest_after bytes at) (word_at letters i v k at lt) ∙ rest_more bytes at (in_word (get_or letters i 0 ∷ drop (i + 1) letters) v k) lt'
    ∙ ap (rest_after bytes (at + 1)) (ap (λ b. cond b (word_left (drop (i + 1) letters) v k (at + 1)) (stop (bad at))) test)

pub word_breaks : (bytes : List ℕ) (at : ℕ) (letters : List ℕ) (i : ℕ) (v : Json) (k : List Frame) (e : Stop) → i < length letters → (at < length bytes → get_or bytes at 0 ≢ get_or letters i 0)
    → e ≡ rest_after bytes at (word_left (drop i letters) v k at) → e ≡ bad at
unfolding step
word_breaks bytes at letters i v k e lt differs so_far =
    so_far ∙ ap (rest_after bytes at) (word_at letters i v k at lt) ∙ elim (cases_lt at (length bytes)) [
      | inl lt' ↦
          let test : (get_or bytes at 0 == get_or letters i 0) ≡ false = false_from_ne_true _ (λ t. differs lt' (eqb-true _ _ t)) in
          rest_more bytes at (in_word (get_or letters i 0 ∷ drop (i + 1) letters) v k) lt'
          ∙ ap (rest_after bytes (at + 1)) (ap (λ b. cond b (word_left (drop (i + 1) letters) v k (at + 1)) (stop (bad at))) test)
      | inr ge ↦ rest_end bytes at (in_word (get_or letters i 0 ∷ drop (i + 1) letters) v k) ge
    ]

pub word_ends : (bytes : List ℕ) (at : ℕ) (letters : List ℕ) (i : ℕ) (v : Json) (k : List Frame) (e : Stop) → length letters ≤ i
    → e ≡ rest_after bytes at (word_left (drop i letters) v k at) → e ≡ rest_after bytes at (deliver v k at)
word_ends bytes at letters i v k e le so_far = so_far ∙ ap (λ left. rest_after bytes at (word_left left v k at)) (drop_all i letters le)

-- ---- numbers

pub number_goes_on : (bytes : List ℕ) (at : ℕ) (phase p : Phase) (n m : Numeral) (k : List Frame) → at < length bytes → goes_on p m ≡ step_number phase n (mark_of (get_or bytes at 0))
    → rest_of bytes at (in_number phase n k) ≡ rest_of bytes (at + 1) (in_number p m k)
unfolding step
number_goes_on bytes at phase p n m k lt e =
    rest_more bytes at (in_number phase n k) lt ∙ ap (λ i. rest_after bytes (at + 1) (step_in_number at k (kind_of (get_or bytes at 0)) i)) (sym e)

past : (bytes : List ℕ) (at : ℕ) (v : Json) (k : List Frame) → at < length bytes → rest_after bytes (at + 1) (step_past at v k (kind_of (get_or bytes at 0))) ≡ rest_after bytes at (deliver v k at)
unfolding step
past bytes at v [] lt = refl
past bytes at v (f ∷ k) lt = sym (rest_more bytes at (behind v f k) lt)

pub number_ends : (bytes : List ℕ) (at : ℕ) (phase : Phase) (n m : Numeral) (k : List Frame) → at < length bytes → ends m ≡ step_number phase n (mark_of (get_or bytes at 0))
    → rest_of bytes at (in_number phase n k) ≡ rest_after bytes at (deliver (number (numeral_value m)) k at)
unfolding step
number_ends bytes at phase n m k lt e =
    rest_more bytes at (in_number phase n k) lt ∙ ap (λ i. rest_after bytes (at + 1) (step_in_number at k (kind_of (get_or bytes at 0)) i)) (sym e) ∙ past bytes at (number (numeral_value m)) k lt

pub number_breaks : (bytes : List ℕ) (at : ℕ) (phase : Phase) (n : Numeral) (k : List Frame) → at < length bytes → wrong ≡ step_number phase n (mark_of (get_or bytes at 0))
    → rest_of bytes at (in_number phase n k) ≡ bad at
unfolding step
number_breaks bytes at phase n k lt e =
    rest_more bytes at (in_number phase n k) lt ∙ ap (λ i. rest_after bytes (at + 1) (step_in_number at k (kind_of (get_or bytes at 0)) i)) (sym e)

finished : (bytes : List ℕ) (at : ℕ) (n : Numeral) (k : List Frame) → length bytes ≤ at → finish_number at n k true ≡ rest_after bytes at (deliver (number (numeral_value n)) k at)
finished bytes at n [] le = refl
finished bytes at n (f ∷ k) le = sym (rest_end bytes at (behind (number (numeral_value n)) f k) le)

pub number_at_end : (bytes : List ℕ) (at : ℕ) (phase : Phase) (n : Numeral) (k : List Frame) → length bytes ≤ at → may_end phase ≡ true
    → rest_of bytes at (in_number phase n k) ≡ rest_after bytes at (deliver (number (numeral_value n)) k at)
number_at_end bytes at phase n k le e = rest_end bytes at (in_number phase n k) le ∙ ap (finish_number at n k) e ∙ finished bytes at n k le

unfinished : (at : ℕ) (n : Numeral) (k : List Frame) → finish_number at n k false ≡ bad at
unfinished at n [] = refl
unfinished at n (f ∷ k) = refl

pub number_cut : (bytes : List ℕ) (at : ℕ) (phase : Phase) (n : Numeral) (k : List Frame) → length bytes ≤ at → may_end phase ≡ false → rest_of bytes at (in_number phase n k) ≡ bad at
number_cut bytes at phase n k le e = rest_end bytes at (in_number phase n k) le ∙ ap (finish_number at n k) e ∙ unfinished at n k

pub begins_plain : (bytes : List ℕ) (at : ℕ) (k : List Frame) → at < length bytes → kind_of (get_or bytes at 0) ≡ Digit → rest_of bytes at (due k) ≡ rest_of bytes (at + 1) (in_number (first_phase (get_or bytes at 0 - 48)) (numeral false ((get_or bytes at 0 - 48) ∷ [])) k)
unfolding step
begins_plain bytes at k lt e = rest_more bytes at (due k) lt ∙ ap (λ kind. rest_after bytes (at + 1) (step_due true at k (get_or bytes at 0) kind)) e

-- ---- results

pub moved2 : {X A B : Type 0} (r : Result X JsonFault) (from to : A → B → Stop) (out : X → A → B → Stop) → ((a : A) (b : B) → from a b ≡ to a b) → IfOk r (λ x. (a : A) (b : B) → to a b ≡ out x a b) → IfOk r (λ x. (a : A) (b : B) → from a b ≡ out x a b)
moved2 (Ok x) from to out same h = λ a b. same a b ∙ h a b
moved2 (Err f) from to out same h = tt

pub moved2_err : {X A B : Type 0} (r : Result X JsonFault) (from to : A → B → Stop) → ((a : A) (b : B) → from a b ≡ to a b) → IfErr r (λ f. (a : A) (b : B) → Faults f (to a b)) → IfErr r (λ f. (a : A) (b : B) → Faults f (from a b))
moved2_err (Ok x) from to same h = tt
moved2_err (Err f) from to same h = λ a b. subst (Faults f) (sym (same a b)) (h a b)
