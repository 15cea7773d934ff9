-- What a line is where 1 stands at one position and 0 at every other: the number of that position.
use Rattle.std.proofs.Common.{◌≡◌, ◌≢◌, ℕ, ◌+◌, ◌*◌, ◌<◌, arith, ℤ, pos, ◌*ℤ◌, Bool, true, false, if◌then◌else◌, ◌==◌, [], ◌∷◌, Option, Some, None, IfSome, ap, sym, ◌∙◌, refl, subst, ◌⊎◌, inl, inr}
use Rattle.std.specs.List.{All}
use Rattle.std.proofs.lemmas.Int.{ints}
use Rattle.std.proofs.lemmas.Bool.Decides.{nat_tests}
use Rattle.std.proofs.lemmas.List.Elements.{All-head, All-tail, All-cons, All-nil}
use Rattle.bt_frac.specs.Ratio.{Ratio, IsLowest}
use Rattle.bt_frac.specs.Values.{AreValues, nothing, plus, times}
use Rattle.bt_farkas.specs.WeightedRows.{coefficient_at}
use Rattle.bt_farkas.proofs.SameNumbers.{zero_same}
use Rattle.bt_linear_forms.specs.Lines.{one, Terms, HasNumber, IsLine, IsLineFrom, IsCombination, total}
use Rattle.bt_linear_forms.proofs.Numbers.{Positive, nothing_some, Alike, alike, itself, back, next, both_plus, both_times, swap_plus, drop_zero, times_positive, times_zero}
use Rattle.bt_linear_forms.proofs.Totals.{total_positive, rest_line}

-- 1 at this position, and 0 at every other
pub indicator : ℕ → ℕ → Ratio
indicator position other = if other == position then one else nothing

pub here_is : (p q : ℕ) → q ≡ p → indicator p q ≡ one
unfolding indicator
here_is p q e = let t : (q == p) ≡ true = grind (arith, nat_tests) in ap (λ b. if b then one else nothing) t

pub other_is : (p q : ℕ) → q ≢ p → indicator p q ≡ nothing
unfolding indicator
other_is p q h = let t : (q == p) ≡ false = grind (arith, nat_tests) in ap (λ b. if b then one else nothing) t

chosen_some : (b : Bool) → Positive (if b then one else nothing)
chosen_some true = omega arith
chosen_some false = omega arith

pub indicator_some : (p : ℕ) → AreValues (indicator p)
unfolding indicator
indicator_some p q = chosen_some (q == p)

-- a position stands nowhere among terms
abbrev pub LacksPosition : ℕ → Terms → Type 0
LacksPosition p terms = All (λ t. t.0 ≢ p) terms

pub over_zero_of : (a b : Ratio) → Alike a b → b.over ≡ pos 0 → a.over ≡ pos 0
over_zero_of a b h e = (zero_same b a h.right h.left (back h).same).0 e

-- the terms of other positions add up to 0
pub lacking_total : (p : ℕ) (terms : Terms) → All HasNumber terms → LacksPosition p terms → Alike (total (indicator p) terms) nothing
lacking_total p [] all lacks = itself nothing nothing_some
lacking_total p (t ∷ terms) all lacks =
    let here = All-head HasNumber t terms all in
    let rest = lacking_total p terms (All-tail HasNumber t terms all) (All-tail (λ u. u.0 ≢ p) t terms lacks) in
    let none : (indicator p t.0).over ≡ pos 0 = ap (λ r. r.over) (other_is p t.0 (All-head (λ u. u.0 ≢ p) t terms lacks)) in
    let product = times t.1 (indicator p t.0) in
    next (drop_zero product (total (indicator p) terms) (times_positive t.1 (indicator p t.0) here.0.positive (indicator_some p t.0)) rest.left (times_zero t.1 (indicator p t.0) none)) rest

-- later positions are others
pub later_lacks : (p least : ℕ) (terms : Terms) → p < least → IsLineFrom least terms → LacksPosition p terms
later_lacks p least [] h line = All-nil (λ u. u.0 ≢ p)
later_lacks p least (t ∷ terms) h line =
    let after : IsLineFrom (t.0 + 1) terms = record { ascends = line.ascends.2; numbers = All-tail HasNumber t terms line.numbers } in
    let low = line.ascends.0 in
    let apart : t.0 ≢ p = λ e. omega arith in
    All-cons (λ u. u.0 ≢ p) t terms apart (later_lacks p (t.0 + 1) terms (omega arith) after)

pub times_one : (a : Ratio) → Positive a → Alike (times a one) a
times_one a some = alike (times a one) a (times_positive a one some (omega arith)) some (parts a.over a.under)
  where
    parts : (x : ℤ) (m : ℕ) → x *ℤ pos 1 *ℤ pos m ≡ x *ℤ pos (m * 1)
    parts x m = ap (λ t. t *ℤ pos m) (one_ℤ x) ∙ ap (λ n. x *ℤ pos n) (one_ℕ m)
      where
        one_ℤ : (x : ℤ) → x *ℤ pos 1 ≡ x
        one_ℤ x = omega (arith, ints)

        one_ℕ : (m : ℕ) → m ≡ m * 1
        one_ℕ m = omega arith

-- the term of the position is left
pub having_total : (t : ℕ × Ratio) (terms : Terms) → HasNumber t → IsLineFrom (t.0 + 1) terms → Alike (total (indicator t.0) (t ∷ terms)) t.1
having_total t terms number line =
    let rest = lacking_total t.0 terms line.numbers (later_lacks t.0 (t.0 + 1) terms (omega arith) line) in
    let product : Alike (times t.1 (indicator t.0 t.0)) t.1 = subst (λ r. Alike (times t.1 r) t.1) (sym (here_is t.0 t.0 refl)) (times_one t.1 number.0.positive) in
    next (both_plus product rest) (next (swap_plus t.1 nothing number.0.positive nothing_some) (drop_zero nothing t.1 nothing_some number.0.positive refl))

pub decide : (p q : ℕ) → (p ≡ q) ⊎ (p ≢ q)
decide p q = at (p == q) refl
  where
    at : (b : Bool) → (p == q) ≡ b → (p ≡ q) ⊎ (p ≢ q)
    at true e = inl (grind (arith, nat_tests))
    at false e = inr (λ s. grind (arith, nat_tests))

-- a line is 0 there only where it lacks the position
pub zero_lacks : (p least : ℕ) (terms : Terms) → IsLineFrom least terms → (total (indicator p) terms).over ≡ pos 0 → LacksPosition p terms
zero_lacks p least [] line e = All-nil (λ u. u.0 ≢ p)
zero_lacks p least (t ∷ terms) line e = elim (decide t.0 p) [
  | inl same ↦
      let number = All-head HasNumber t terms line.numbers in
      let seen : (total (indicator t.0) (t ∷ terms)).over ≡ pos 0 = subst (λ n. (total (indicator n) (t ∷ terms)).over ≡ pos 0) (sym same) e in
      absurd (number.1 (over_zero_of t.1 (total (indicator t.0) (t ∷ terms)) (back (having_total t terms number (rest_line least t terms line))) seen))
  | inr apart ↦
      let number = All-head HasNumber t terms line.numbers in
      let none : (indicator p t.0).over ≡ pos 0 = ap (λ r. r.over) (other_is p t.0 apart) in
      let rest_some = total_positive (indicator p) (indicator_some p) terms (All-tail HasNumber t terms line.numbers) in
      let dropped = drop_zero (times t.1 (indicator p t.0)) (total (indicator p) terms) (times_positive t.1 (indicator p t.0) number.0.positive (indicator_some p t.0)) rest_some
      (times_zero t.1 (indicator p t.0) none) in
      All-cons (λ u. u.0 ≢ p) t terms apart (zero_lacks p (t.0 + 1) terms (rest_line least t terms line) (over_zero_of (total (indicator p) terms) (plus (times t.1 (indicator p t.0)) (total (indicator p) terms)) (back dropped) e))
]

-- the number at a position
pub total_at : (p least : ℕ) (terms : Terms) (number : Ratio) → IsLineFrom least terms → coefficient_at p terms ≡ Some number → Alike (total (indicator p) terms) number
total_at p least [] number line e = absurd cc
total_at p least (t ∷ terms) number line e = elim (decide t.0 p) [
  | inl same ↦
      let test : (t.0 == p) ≡ true = grind (arith, nat_tests) in
      let is : Some t.1 ≡ Some number = sym (ap (λ b. if b then Some t.1 else coefficient_at p terms) test) ∙ e in
      let number_is : t.1 ≡ number = cc in
      subst (λ r. Alike (total (indicator p) (t ∷ terms)) r) number_is
      (subst (λ n. Alike (total (indicator n) (t ∷ terms)) t.1) same (having_total t terms (All-head HasNumber t terms line.numbers) (rest_line least t terms line)))
  | inr apart ↦
      let test : (t.0 == p) ≡ false = grind (arith, nat_tests) in
      let is : coefficient_at p terms ≡ Some number = sym (ap (λ b. if b then Some t.1 else coefficient_at p terms) test) ∙ e in
      let here = All-head HasNumber t terms line.numbers in
      let none : (indicator p t.0).over ≡ pos 0 = ap (λ r. r.over) (other_is p t.0 apart) in
      let rest = total_at p (t.0 + 1) terms number (rest_line least t terms line) is in
      next (drop_zero (times t.1 (indicator p t.0)) (total (indicator p) terms) (times_positive t.1 (indicator p t.0) here.0.positive (indicator_some p t.0)) rest.left
      (times_zero t.1 (indicator p t.0) none)) rest
]

pub none_lacks : (p : ℕ) (terms : Terms) → coefficient_at p terms ≡ None → LacksPosition p terms
none_lacks p [] e = All-nil (λ u. u.0 ≢ p)
none_lacks p (t ∷ terms) e = elim (decide t.0 p) [
  | inl same ↦
      let test : (t.0 == p) ≡ true = grind (arith, nat_tests) in
      let is : Some t.1 ≡ None = sym (ap (λ b. if b then Some t.1 else coefficient_at p terms) test) ∙ e in
      absurd cc
  | inr apart ↦
      let test : (t.0 == p) ≡ false = grind (arith, nat_tests) in
      let is : coefficient_at p terms ≡ None = sym (ap (λ b. if b then Some t.1 else coefficient_at p terms) test) ∙ e in
      All-cons (λ u. u.0 ≢ p) t terms apart (none_lacks p terms is)
]

-- a combination lacks what both lines lack
pub combination_lacks : (p : ℕ) (left : Terms) (factor : Ratio) (right terms : Terms) → Positive factor → All HasNumber left → All HasNumber right → IsLine terms
    → IsCombination left factor right terms → LacksPosition p left → LacksPosition p right → LacksPosition p terms
combination_lacks p left factor right terms some all all' line is lacks lacks' =
    let l = lacking_total p left all lacks in
    let r = lacking_total p right all' lacks' in
    let fn = times_positive factor nothing some nothing_some in
    let zero : Alike (plus (total (indicator p) left) (times factor (total (indicator p) right))) (times factor nothing) =
    next (both_plus l (both_times (itself factor some) r)) (drop_zero nothing (times factor nothing) nothing_some fn refl) in
    zero_lacks p 0 terms line
    (over_zero_of (total (indicator p) terms) (times factor nothing)
    (next (alike (total (indicator p) terms) (plus (total (indicator p) left) (times factor (total (indicator p) right))) (total_positive (indicator p) (indicator_some p) terms line.numbers) zero.left
    (is (indicator p) (indicator_some p))) zero) (times_zero factor nothing refl))

-- a number of a line isn't 0
pub number_has : (p : ℕ) (terms : Terms) (o : Option Ratio) → All HasNumber terms → o ≡ coefficient_at p terms → IfSome o (λ n. HasNumber (p, n))
number_has p terms None all e = tt
number_has p [] (Some number) all e = absurd cc
number_has p (t ∷ terms) (Some number) all e = at (t.0 == p) refl (λ h. number_has p terms (Some number) (All-tail HasNumber t terms all) h)
  where
    at : (b : Bool) → (t.0 == p) ≡ b → (Some number ≡ coefficient_at p terms → HasNumber (p, number)) → HasNumber (p, number)
    at true test rest =
        let is : Some number ≡ Some t.1 = e ∙ ap (λ b. if b then Some t.1 else coefficient_at p terms) test in
        let same : t.1 ≡ number = cc in
        let here = All-head HasNumber t terms all in
        (subst (λ r. IsLowest r) same here.0, subst (λ r. r.over ≢ pos 0) same here.1)
    at false test rest = rest (e ∙ ap (λ b. if b then Some t.1 else coefficient_at p terms) test)
