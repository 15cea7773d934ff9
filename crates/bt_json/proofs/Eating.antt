-- What reading does over a whole text that is given, whatever follows it.
use Rattle.std.proofs.Common.{◌≡◌, ℕ, suc, ◌+◌, Bool, true, false, cond, List, [], ◌∷◌, ◌++◌, length, refl, ap, ◌∙◌, sym, subst, arith, append_assoc, eq-eqb}
use Rattle.std.proofs.lemmas.List.{length-append}
use Rattle.bt_json.specs.Json.{Json, number}
use Rattle.bt_json.specs.Grammar.{Blanks, Texts}
use Rattle.bt_json.specs.inner.Running.{SkipsBlanks}
use Rattle.bt_json.specs.inner.Reading.{State, Step, go, stop, Stop, bad, step, after_step, run, finish, finish_number, may_end, Numeral, numeral_value, Frame, in_number, deliver, in_word}
use Rattle.bt_json.specs.declared.kind.Phase.{Phase}

-- a number that may end is delivered where the bytes end
abbrev pub settle_number : ℕ → Phase → Numeral → List Frame → Bool → Step
settle_number at phase n k true = deliver (number (numeral_value n)) k at
settle_number at phase n k false = go (in_number phase n k)

abbrev pub settle : ℕ → State → Step
settle at (in_number phase n k) = settle_number at phase n k (may_end phase)
settle at s = go s

abbrev pub onward : Step → (State → Step) → Step
onward (go s) more = more s
onward (stop e) more = stop e

-- where the bytes lead to, from a place and a state on
unfoldable pub walk : Bool → ℕ → State → List ℕ → Step
walk strict at s [] = settle at s
walk strict at s (b ∷ bytes) = onward (step strict at b s) (λ next. walk strict (at + 1) next bytes)

-- where the bytes lead to from a step on
abbrev pub after : Bool → ℕ → Step → List ℕ → Step
after strict at next bytes = onward next (λ s. walk strict at s bytes)

pub walk_cons : (strict : Bool) (at : ℕ) (s : State) (b : ℕ) (bytes : List ℕ) → walk strict at s (b ∷ bytes) ≡ after strict (at + 1) (step strict at b s) bytes
unfolding walk
walk_cons strict at s b bytes = refl

-- the end of the bytes behind a step
abbrev pub ended : ℕ → Step → Stop
ended at (go s) = finish at s
ended at (stop e) = e

settled : (at : ℕ) (s : State) → finish at s ≡ ended at (settle at s)
settled at (in_number phase n k) = by k (may_end phase) refl
  where
    by : (f : List Frame) (b : Bool) → may_end phase ≡ b → finish_number at n f b ≡ ended at (settle_number at phase n f b)
    by [] true e = refl
    by (f ∷ fs) true e = refl
    by [] false e = sym (ap (finish_number at n []) e)
    by (f ∷ fs) false e = sym (ap (finish_number at n (f ∷ fs)) e)
settled at s = refl

-- reading gives where the bytes lead to
pub run_is : (strict : Bool) (bytes : List ℕ) (at : ℕ) (s : State) → run strict at s bytes ≡ ended (at + length bytes) (walk strict at s bytes)
unfolding run walk
run_is strict [] at s = let n : at ≡ at + 0 = omega arith in settled at s ∙ ap (λ m. ended m (settle at s)) n
run_is strict (b ∷ bytes) at s = by (step strict at b s) (λ t. run_is strict bytes (at + 1) t)
  where
    by : (next : Step) → ((t : State) → run strict (at + 1) t bytes ≡ ended (at + 1 + length bytes) (walk strict (at + 1) t bytes)) → after_step next (λ t. run strict (at + 1) t bytes) ≡ ended (at + suc (length bytes)) (onward next (λ t. walk strict (at + 1) t bytes))
    by (go t) rest = let n : at + 1 + length bytes ≡ at + suc (length bytes) = omega arith in rest t ∙ ap (λ m. ended m (walk strict (at + 1) t bytes)) n
    by (stop e) rest = refl

-- From the state, reading passes over the text and makes that step, which may depend on the place behind the text. What
-- follows the text is of the last set.
pub record Eats (strict : Bool) (s : State) (t : List ℕ) (next : ℕ → Step) (Before : Texts) : Type 0 where
  pub eats : (at : ℕ) (rest : List ℕ) → Before rest → walk strict at s (t ++ rest) ≡ after strict (at + length t) (next (at + length t)) rest

abbrev pub Anything : Texts
Anything t = Unit {0}

-- one byte
pub eats_byte : (strict : Bool) (s : State) (b : ℕ) (next : ℕ → Step) → ((at : ℕ) → step strict at b s ≡ next (at + 1)) → Eats strict s (b ∷ []) next Anything
eats_byte strict s b next e = record { eats = λ at rest h. walk_cons strict at s b rest ∙ ap (λ n. after strict (at + 1) n rest) (e at) }

-- one text behind another
pub eats_both : (strict : Bool) (s : State) (mid : ℕ → State) (a b : List ℕ) (next : ℕ → Step) (First Second : Texts) → Eats strict s a (λ n. go (mid n)) First → ((n : ℕ) → Eats strict (mid n) b next Second)
    → ((rest : List ℕ) → Second rest → First (b ++ rest)) → Eats strict s (a ++ b) next Second
eats_both strict s mid a b next First Second p q fits = record {
  eats = λ at rest h.
      let n : at + length a + length b ≡ at + length (a ++ b) = omega (arith, length-append a b) in
      ap (walk strict at s) (append_assoc a b rest) ∙ p.eats at (b ++ rest) (fits rest h) ∙ (q (at + length a)).eats (at + length a) rest h ∙ ap (λ m. after strict m (next m) rest) n;
}

-- the same where nothing is asked of what follows
pub eats_then : (strict : Bool) (s mid : State) (a b : List ℕ) (next : ℕ → Step) (Second : Texts) → Eats strict s a (λ n. go mid) Anything → Eats strict mid b next Second → Eats strict s (a ++ b) next Second
eats_then strict s mid a b next Second p q = eats_both strict s (λ n. mid) a b next Anything Second p (λ n. q) (λ rest h. tt)

pub eats_none : (strict : Bool) (s : State) → Eats strict s [] (λ n. go s) Anything
eats_none strict s = record { eats = λ at rest h. let n : at ≡ at + 0 = omega arith in ap (λ m. walk strict m s rest) n }

-- the same text, otherwise written
pub eats_same : (strict : Bool) (s : State) (a b : List ℕ) (next : ℕ → Step) (Before : Texts) → a ≡ b → Eats strict s a next Before → Eats strict s b next Before
eats_same strict s a b next Before e p = subst (λ t. Eats strict s t next Before) e p

-- the same step, otherwise written
pub eats_next : (strict : Bool) (s : State) (t : List ℕ) (next other : ℕ → Step) (Before : Texts) → ((n : ℕ) → next n ≡ other n) → Eats strict s t next Before → Eats strict s t other Before
eats_next strict s t next other Before e p = record { eats = λ at rest h. p.eats at rest h ∙ ap (λ n. after strict (at + length t) n rest) (e (at + length t)) }

-- ---- blanks

pub eats_blanks : (strict : Bool) (s : State) (t : List ℕ) → SkipsBlanks strict s → Blanks t → Eats strict s t (λ n. go s) Anything
eats_blanks strict s [] k h = eats_none strict s
eats_blanks strict s (b ∷ t) k h = eats_then strict s s (b ∷ []) t (λ n. go s) Anything (eats_byte strict s b (λ n. go s) (λ at. k.skips at b h.0)) (eats_blanks strict s t k h.1)

-- ---- words

pub eats_word : (strict : Bool) (c : ℕ) (left : List ℕ) (v : Json) (k : List Frame) → Eats strict (in_word (c ∷ left) v k) (c ∷ left) (deliver v k) Anything
unfolding step
eats_word strict c [] v k = eats_byte strict (in_word (c ∷ []) v k) c (deliver v k) (λ at. ap (λ b. cond b (deliver v k (at + 1)) (stop (bad at))) (eq-eqb c c refl))
eats_word strict c (d ∷ left) v k =
    eats_then strict (in_word (c ∷ d ∷ left) v k) (in_word (d ∷ left) v k) (c ∷ []) (d ∷ left) (deliver v k) Anything
    (eats_byte strict (in_word (c ∷ d ∷ left) v k) c (λ n. go (in_word (d ∷ left) v k)) (λ at. ap (λ b. cond b (go (in_word (d ∷ left) v k)) (stop (bad at))) (eq-eqb c c refl)))
    (eats_word strict d left v k)
