-- How reading goes on between the tokens of lists and objects.
use Rattle.std.proofs.Common.{◌≡◌, ℕ, ◌+◌, ◌<◌, ◌≤◌, true, false, cond, List, [], ◌∷◌, ◌++◌, map, length, get_or, None, refl, ap, ◌∙◌, sym, arith, ◌≢◌, ◌==◌, eq-eqb, inl, inr}
use Rattle.std.specs.Prelude.{◌||◌}
use Rattle.std.specs.List.{list_any}
use Rattle.std.specs.Str.{bytes_eq}
use Rattle.std.proofs.lemmas.Bool.{cases_lt}
use Rattle.std.proofs.lemmas.Bool.Decides.{nat_tests}
use Rattle.bt_json.specs.Json.{Json, list, object}
use Rattle.bt_json.specs.Stands.{items_of, members_of}
use Rattle.bt_json.specs.Grammar.{is_blank}
use Rattle.bt_json.specs.inner.Bytes.{kind_of}
use Rattle.bt_json.specs.inner.Reading.{State, go, stop, bad, deep, twice, step, Frame, in_list, in_object, due, opened_list, opened_object, name_due, colon_due, in_text, between, as_name, finish_text, deliver, opens_level, has_name, step_due, step_opened_list, step_opened_object, step_name_due, step_colon_due}
use Rattle.bt_json.specs.inner.Running.{rest_of, rest_after}
use Rattle.bt_json.specs.declared.kind.Kind.{Kind}
use Rattle.bt_json.specs.declared.kind.Kind.TheVariants.{Blank, ListOpens, ObjectOpens, ObjectCloses, Colon, Quote, Minus, Digit, LetterT, LetterF, LetterN}
use Rattle.bt_json.proofs.Blanks.{opened_other}
use Rattle.bt_json.proofs.ByteKinds.{kind-Blank, kind-ListCloses, kind-ObjectCloses, kind-Colon, kind-Quote, kind_of-list_closes, kind_of-object_closes, kind_of-colon, kind_of-quote}
use Rattle.bt_json.proofs.Running.{rest_more, rest_end}
use Rattle.bt_json.specs.declared.limits.TheConstants.{MOST_LEVELS}

-- ---- names

-- the byte at a place, where there is one, is no blank
abbrev pub NoBlank : List ℕ → ℕ → Type 0
NoBlank bytes at = at < length bytes → is_blank (get_or bytes at 0) ≡ false

pub no_kind : (b : ℕ) → is_blank b ≡ false → kind_of b ≢ Blank
no_kind b e k = let h : is_blank b ≡ true = kind-Blank b k in cc

pub quote_opens : (bytes : List ℕ) (at : ℕ) (names : List (List ℕ)) (vs : List Json) (k : List Frame) → at < length bytes → get_or bytes at 0 ≡ 34 → rest_of bytes at (name_due names vs k) ≡ rest_of bytes (at + 1) (in_text [] None between (as_name names vs at) k)
unfolding step
quote_opens bytes at names vs k lt e = rest_more bytes at (name_due names vs k) lt ∙ ap (λ kind. rest_after bytes (at + 1) (step_name_due at names vs k kind)) (ap kind_of e ∙ kind_of-quote)

name_other : (at : ℕ) (names : List (List ℕ)) (vs : List Json) (k : List Frame) (kind : Kind) → kind ≢ Blank → kind ≢ Quote → step_name_due at names vs k kind ≡ stop (bad at)
name_other at names vs k Blank n m = absurd (n refl)
name_other at names vs k Quote n m = absurd (m refl)
name_other at names vs k kind n m = refl

pub name_breaks : (bytes : List ℕ) (at : ℕ) (names : List (List ℕ)) (vs : List Json) (k : List Frame) → NoBlank bytes at → (at < length bytes → get_or bytes at 0 ≢ 34) → rest_of bytes at (name_due names vs k) ≡ bad at
unfolding step
name_breaks bytes at names vs k no_blank no_quote = elim (cases_lt at (length bytes)) [
  | inl lt ↦ rest_more bytes at (name_due names vs k) lt
      ∙ ap (rest_after bytes (at + 1)) (name_other at names vs k (kind_of (get_or bytes at 0)) (no_kind _ (no_blank lt)) (λ e. no_quote lt (kind-Quote _ e)))
  | inr le ↦ rest_end bytes at (name_due names vs k) le
]

pub colon_goes_on : (bytes : List ℕ) (at : ℕ) (names : List (List ℕ)) (vs : List Json) (n : List ℕ) (k : List Frame) → at < length bytes → get_or bytes at 0 ≡ 58 → rest_of bytes at (colon_due names vs n k) ≡ rest_of bytes (at + 1) (due (in_object (names ++ n ∷ []) vs ∷ k))
unfolding step
colon_goes_on bytes at names vs n k lt e = rest_more bytes at (colon_due names vs n k) lt ∙ ap (λ kind. rest_after bytes (at + 1) (step_colon_due at names vs n k kind)) (ap kind_of e ∙ kind_of-colon)

colon_other : (at : ℕ) (names : List (List ℕ)) (vs : List Json) (n : List ℕ) (k : List Frame) (kind : Kind) → kind ≢ Blank → kind ≢ Colon → step_colon_due at names vs n k kind ≡ stop (bad at)
colon_other at names vs n k Blank p m = absurd (p refl)
colon_other at names vs n k Colon p m = absurd (m refl)
colon_other at names vs n k kind p m = refl

pub colon_breaks : (bytes : List ℕ) (at : ℕ) (names : List (List ℕ)) (vs : List Json) (n : List ℕ) (k : List Frame) → NoBlank bytes at → (at < length bytes → get_or bytes at 0 ≢ 58) → rest_of bytes at (colon_due names vs n k) ≡ bad at
unfolding step
colon_breaks bytes at names vs n k no_blank no_colon = elim (cases_lt at (length bytes)) [
  | inl lt ↦ rest_more bytes at (colon_due names vs n k) lt
      ∙ ap (rest_after bytes (at + 1)) (colon_other at names vs n k (kind_of (get_or bytes at 0)) (no_kind _ (no_blank lt)) (λ e. no_colon lt (kind-Colon _ e)))
  | inr le ↦ rest_end bytes at (colon_due names vs n k) le
]

-- what a set of names tells of a name
pub any_along : {X : Type 0} (f : X → List ℕ) (n : List ℕ) (xs : List X) → list_any (bytes_eq n) (map f xs) ≡ list_any (λ x. bytes_eq n (f x)) xs
any_along f n [] = refl
any_along f n (x ∷ xs) = ap (λ b. bytes_eq n (f x) || b) (any_along f n xs)

pub name_twice : (bytes : List ℕ) (end at from : ℕ) (names : List (List ℕ)) (vs : List Json) (n : List ℕ) (k : List Frame) → has_name names n ≡ true → rest_after bytes end (finish_text true at n (as_name names vs from) k) ≡ twice from at
name_twice bytes end at from names vs n k e = ap (λ b. rest_after bytes end (cond b (stop (twice from at)) (go (colon_due names vs n k)))) e

pub name_new : (bytes : List ℕ) (end at from : ℕ) (names : List (List ℕ)) (vs : List Json) (n : List ℕ) (k : List Frame) → has_name names n ≡ false → rest_after bytes end (finish_text true at n (as_name names vs from) k) ≡ rest_of bytes end (colon_due names vs n k)
name_new bytes end at from names vs n k e = ap (λ b. rest_after bytes end (cond b (stop (twice from at)) (go (colon_due names vs n k)))) e

-- ---- values

pub due_at : (bytes : List ℕ) (at : ℕ) (k : List Frame) (kind : Kind) → at < length bytes → kind_of (get_or bytes at 0) ≡ kind → rest_of bytes at (due k) ≡ rest_after bytes (at + 1) (step_due true at k (get_or bytes at 0) kind)
unfolding step
due_at bytes at k kind lt e = rest_more bytes at (due k) lt ∙ ap (λ x. rest_after bytes (at + 1) (step_due true at k (get_or bytes at 0) x)) e

pub opens_inside : (k : List Frame) (at : ℕ) (inside : State) → length k < MOST_LEVELS → opens_level true k at inside ≡ go inside
opens_inside k at inside lt = let t : (length k == MOST_LEVELS) ≡ false = grind (arith, nat_tests) in ap (λ b. cond b (stop (deep at)) (go inside)) t

pub opens_deep : (k : List Frame) (at : ℕ) (inside : State) → length k ≡ MOST_LEVELS → opens_level true k at inside ≡ stop (deep at)
opens_deep k at inside e = let t : (length k == MOST_LEVELS) ≡ true = eq-eqb _ _ e in ap (λ b. cond b (stop (deep at)) (go inside)) t

pub record OpensNone (kind : Kind) : Type 0 where
  pub blank : kind ≢ Blank
  pub list : kind ≢ ListOpens
  pub object : kind ≢ ObjectOpens
  pub quote : kind ≢ Quote
  pub minus : kind ≢ Minus
  pub digit : kind ≢ Digit
  pub t : kind ≢ LetterT
  pub f : kind ≢ LetterF
  pub n : kind ≢ LetterN

pub due_other : (at : ℕ) (k : List Frame) (b : ℕ) (kind : Kind) → OpensNone kind → step_due true at k b kind ≡ stop (bad at)
due_other at k b Blank o = absurd (o.blank refl)
due_other at k b ListOpens o = absurd (o.list refl)
due_other at k b ObjectOpens o = absurd (o.object refl)
due_other at k b Quote o = absurd (o.quote refl)
due_other at k b Minus o = absurd (o.minus refl)
due_other at k b Digit o = absurd (o.digit refl)
due_other at k b LetterT o = absurd (o.t refl)
due_other at k b LetterF o = absurd (o.f refl)
due_other at k b LetterN o = absurd (o.n refl)
due_other at k b kind o = refl

pub due_cut : (bytes : List ℕ) (at : ℕ) (k : List Frame) → length bytes ≤ at → rest_of bytes at (due k) ≡ bad at
due_cut bytes at k le = rest_end bytes at (due k) le

-- ---- lists

pub list_closes : (bytes : List ℕ) (at : ℕ) (k : List Frame) → at < length bytes → get_or bytes at 0 ≡ 93 → rest_of bytes at (opened_list k) ≡ rest_after bytes (at + 1) (deliver (list (items_of [])) k (at + 1))
unfolding step
list_closes bytes at k lt e = rest_more bytes at (opened_list k) lt ∙ ap (λ kind. rest_after bytes (at + 1) (step_opened_list true at k (get_or bytes at 0) kind)) (ap kind_of e ∙ kind_of-list_closes)

pub first_item : (bytes : List ℕ) (at : ℕ) (k : List Frame) → NoBlank bytes at → (at < length bytes → get_or bytes at 0 ≢ 93) → rest_of bytes at (opened_list k) ≡ rest_of bytes at (due (in_list [] ∷ k))
unfolding step
first_item bytes at k no_blank no_close = elim (cases_lt at (length bytes)) [
  | inl lt ↦ rest_more bytes at (opened_list k) lt
      ∙ ap (rest_after bytes (at + 1)) (opened_other true at k (get_or bytes at 0) (kind_of (get_or bytes at 0)) (no_kind _ (no_blank lt)) (λ e. no_close lt (kind-ListCloses _ e)))
      ∙ sym (rest_more bytes at (due (in_list [] ∷ k)) lt)
  | inr le ↦ rest_end bytes at (opened_list k) le ∙ sym (rest_end bytes at (due (in_list [] ∷ k)) le)
]

-- ---- objects

pub object_closes : (bytes : List ℕ) (at : ℕ) (k : List Frame) → at < length bytes → get_or bytes at 0 ≡ 125 → rest_of bytes at (opened_object k) ≡ rest_after bytes (at + 1) (deliver (object (members_of [] [])) k (at + 1))
unfolding step
object_closes bytes at k lt e = rest_more bytes at (opened_object k) lt ∙ ap (λ kind. rest_after bytes (at + 1) (step_opened_object at k kind)) (ap kind_of e ∙ kind_of-object_closes)

object_other : (at : ℕ) (k : List Frame) (kind : Kind) → kind ≢ Blank → kind ≢ ObjectCloses → step_opened_object at k kind ≡ step_name_due at [] [] k kind
object_other at k Blank n m = absurd (n refl)
object_other at k ObjectCloses n m = absurd (m refl)
object_other at k kind n m = refl

pub first_name : (bytes : List ℕ) (at : ℕ) (k : List Frame) → NoBlank bytes at → (at < length bytes → get_or bytes at 0 ≢ 125) → rest_of bytes at (opened_object k) ≡ rest_of bytes at (name_due [] [] k)
unfolding step
first_name bytes at k no_blank no_close = elim (cases_lt at (length bytes)) [
  | inl lt ↦ rest_more bytes at (opened_object k) lt
      ∙ ap (rest_after bytes (at + 1)) (object_other at k (kind_of (get_or bytes at 0)) (no_kind _ (no_blank lt)) (λ e. no_close lt (kind-ObjectCloses _ e)))
      ∙ sym (rest_more bytes at (name_due [] [] k) lt)
  | inr le ↦ rest_end bytes at (opened_object k) le ∙ sym (rest_end bytes at (name_due [] [] k) le)
]
