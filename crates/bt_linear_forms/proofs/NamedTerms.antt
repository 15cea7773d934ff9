-- The terms of a line by their positions and by their places.
use Rattle.std.proofs.Common.{◌≡◌, ◌≢◌, ℕ, ◌+◌, ◌<◌, ◌≤◌, arith, zero, suc, add-one, length, get_or, drop, true, false, if◌then◌else◌, ◌==◌, [], ◌∷◌, Some, None, ap, sym, ◌∙◌, refl, subst, inl, inr}
use Rattle.std.proofs.lemmas.Bool.Decides.{nat_tests}
use Rattle.std.proofs.Math.Seq.{drop-cons}
use Rattle.bt_frac.specs.Ratio.{Ratio}
use Rattle.bt_farkas.specs.WeightedRows.{coefficient_at}
use Rattle.bt_linear_forms.specs.Lines.{Terms, IsLineFrom}
use Rattle.bt_linear_forms.proofs.Indicators.{decide}
use Rattle.bt_linear_forms.proofs.Totals.{rest_line}

pub number_here : (t : ℕ × Ratio) (rest : Terms) (q : ℕ) → t.0 ≡ q → coefficient_at q (t ∷ rest) ≡ Some t.1
number_here t rest q same = let test : (t.0 == q) ≡ true = grind (arith, nat_tests) in ap (λ b. if b then Some t.1 else coefficient_at q rest) test

pub number_later : (t : ℕ × Ratio) (rest : Terms) (q : ℕ) → t.0 ≢ q → coefficient_at q (t ∷ rest) ≡ coefficient_at q rest
number_later t rest q apart = let test : (t.0 == q) ≡ false = grind (arith, nat_tests) in ap (λ b. if b then Some t.1 else coefficient_at q rest) test

-- a line names no position before its least one
pub named_from : (q least : ℕ) (terms : Terms) (number : Ratio) → IsLineFrom least terms → coefficient_at q terms ≡ Some number → least ≤ q
named_from q least [] number line names = absurd cc
named_from q least (t ∷ rest) number line names =
    let low : least ≤ t.0 = line.ascends.0 in
    elim (decide t.0 q) [
      | inl same ↦ omega arith
      | inr apart ↦
          let after : t.0 + 1 ≤ q = named_from q (t.0 + 1) rest number (rest_line least t rest line) (sym (number_later t rest q apart) ∙ names) in
          omega arith
    ]

-- the term at a place of a line is the one of its position
pub number_at_place : (least : ℕ) (terms : Terms) (i : ℕ) (d : ℕ × Ratio) → IsLineFrom least terms → i < length terms → coefficient_at (get_or terms i d).0 terms ≡ Some (get_or terms i d).1
number_at_place least [] i d line inside = absurd (omega arith)
number_at_place least (t ∷ terms) zero d line inside = number_here t terms t.0 refl
number_at_place least (t ∷ terms) (suc i) d line inside =
    let rest = number_at_place (t.0 + 1) terms i d (rest_line least t terms line) (omega arith) in
    let after : t.0 + 1 ≤ (get_or terms i d).0 = named_from (get_or terms i d).0 (t.0 + 1) terms (get_or terms i d).1 (rest_line least t terms line) rest in
    number_later t terms (get_or terms i d).0 (λ e. omega arith) ∙ rest

-- the same of a term that a walk reads there
pub item_named : (terms : Terms) (i : ℕ) (t : ℕ × Ratio) → IsLineFrom 0 terms → i < length terms → t ≡ get_or terms i t → coefficient_at t.0 terms ≡ Some t.1
item_named terms i t line inside is = subst (λ u. coefficient_at u.0 terms ≡ Some u.1) (sym is) (number_at_place 0 terms i t line inside)

pub drop_here : (terms : Terms) (i : ℕ) (t : ℕ × Ratio) → i < length terms → t ≡ get_or terms i t → drop i terms ≡ t ∷ drop (i + 1) terms
drop_here terms i t inside is = rw add-one (drop-cons terms i t inside ∙ ap (λ u. u ∷ drop (suc i) terms) (sym is))

-- a line names no position that its first term has passed
passed_from : (least : ℕ) (terms : Terms) (q : ℕ) → q < least → IsLineFrom least terms → coefficient_at q terms ≡ None
passed_from least [] q before line = refl
passed_from least (t ∷ rest) q before line =
    let low : least ≤ t.0 = line.ascends.0 in
    number_later t rest q (λ e. omega arith) ∙ passed_from (t.0 + 1) rest q (omega arith) (rest_line least t rest line)

pub passed_none : (least : ℕ) (terms : Terms) (i : ℕ) (t : ℕ × Ratio) (q : ℕ) → IsLineFrom least terms → i < length terms → t ≡ get_or terms i t → q < t.0 → coefficient_at q (drop i terms) ≡ None
passed_none least [] i t q line inside is before = absurd (omega arith)
passed_none least (u ∷ terms) zero t q line inside is before =
    let ahead : q < u.0 = subst (λ x. q < x.0) is before in
    number_later u terms q (λ e. omega arith) ∙ passed_from (u.0 + 1) terms q (omega arith) (rest_line least u terms line)
passed_none least (u ∷ terms) (suc i) t q line inside is before = passed_none (u.0 + 1) terms i t q (rest_line least u terms line) (omega arith) is before
