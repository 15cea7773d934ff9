-- Sums of the terms of lines, and the steps of a walk over two lines.
use Rattle.std.proofs.Common.{◌≡◌, ◌≢◌, ℕ, ◌+◌, ◌*◌, ◌<◌, arith, pos, ◌*ℤ◌, [], ◌∷◌, Option, Some, None, IfSome, ap, sym, ◌∙◌, refl, subst, unsigned_abs, inl, inr}
use Rattle.std.specs.List.{All}
use Rattle.std.proofs.lemmas.Int.{unsigned_abs-mul}
use Rattle.std.proofs.lemmas.List.Elements.{All-head, All-tail}
use Rattle.bt_frac.specs.Ratio.{Ratio, IsLowest, IsSum}
use Rattle.bt_frac.specs.Products.{IsProduct}
use Rattle.bt_frac.specs.Values.{AreValues, nothing, plus, times}
use Rattle.std.proofs.Math.IntN.{zero-*ℤ}
use Rattle.bt_frac.proofs.Over.{under_positive}
use Rattle.bt_frac.proofs.Quotients.{nonzero_size}
use Rattle.bt_linear_forms.specs.Lines.{Terms, HasNumber, IsLineFrom, total}
use Rattle.bt_linear_forms.specs.inner.Steps.{IsStep, IsNumbered, AddsTo, term_total}
use Rattle.bt_linear_forms.proofs.Numbers.{Positive, nothing_some, Alike, alike, itself, back, next, both_plus, both_times, group_plus, group_times, spread, spread_right, drop_zero, turn_plus, plus_positive, times_positive}

pub total_positive : (at : ℕ → Ratio) → AreValues at → (terms : Terms) → All HasNumber terms → Positive (total at terms)
total_positive at some [] all = omega arith
total_positive at some (t ∷ terms) all =
    let here = All-head HasNumber t terms all in
    plus_positive (times t.1 (at t.0)) (total at terms) (times_positive t.1 (at t.0) here.0.positive (some t.0))
    (total_positive at some terms (All-tail HasNumber t terms all))

-- a line starts after this position, if at all
pub StartsAfter : ℕ → Terms → Type 0
StartsAfter position [] = Unit {0}
StartsAfter position (t ∷ terms) = position < t.0

pub later : (position least : ℕ) (terms : Terms) → StartsAfter position terms → IsLineFrom least terms → IsLineFrom (position + 1) terms
unfolding StartsAfter
later position least [] after line = record { ascends = tt; numbers = line.numbers }
later position least (t ∷ terms) after line = record { ascends = (omega arith, line.ascends.1, line.ascends.2); numbers = line.numbers }

pub rest_line : (least : ℕ) (t : ℕ × Ratio) (terms : Terms) → IsLineFrom least (t ∷ terms) → IsLineFrom (t.0 + 1) terms
rest_line least t terms line = record { ascends = line.ascends.2; numbers = All-tail HasNumber t terms line.numbers }

step_left : (first : ℕ × Ratio) (rest : Terms) (factor : Ratio) (right : Terms) → Positive factor → StartsAfter first.0 right
    → IsStep (first ∷ rest) factor right (Some first) rest right
step_left first rest factor right some after = record {
  sums = λ at values left_all right_all.
      let here = All-head HasNumber first rest left_all in
      (group_plus (times first.1 (at first.0)) (total at rest) (times factor (total at right)) (times_positive first.1 (at first.0) here.0.positive (values first.0))
      (total_positive at values rest (All-tail HasNumber first rest left_all))
      (times_positive factor (total at right) some (total_positive at values right right_all))).same;
  order = λ least left_line right_line. record {
    place = first.0;
    reached = left_line.ascends.0;
    fits = left_line.ascends.1;
    named = (refl, All-head HasNumber first rest left_line.numbers);
    left_after = rest_line least first rest left_line;
    right_after = later first.0 least right after right_line;
  };
  left_tail = inr (first, refl);
  right_tail = inl refl;
  shorter = omega arith;
}

pub product_some : (x y p : Ratio) → Positive p → IsProduct x y p → x.over ≢ pos 0 → y.over ≢ pos 0 → p.over ≢ pos 0
product_some x y p some is x_some y_some e =
    let sizes : unsigned_abs p.over * (x.under * y.under) ≡ unsigned_abs x.over * unsigned_abs y.over * p.under =
    sym (unsigned_abs-mul p.over (pos (x.under * y.under))) ∙ ap unsigned_abs is ∙ unsigned_abs-mul (x.over *ℤ y.over) (pos p.under)
    ∙ ap (λ n. n * p.under) (unsigned_abs-mul x.over y.over) in
    let none : unsigned_abs p.over ≡ 0 = ap unsigned_abs e in
    let zero : 0 * (x.under * y.under) ≡ unsigned_abs x.over * unsigned_abs y.over * p.under = sym (ap (λ n. n * (x.under * y.under)) none) ∙ sizes in
    let above = under_positive (unsigned_abs x.over * unsigned_abs y.over) p.under (under_positive (unsigned_abs x.over) (unsigned_abs y.over) (nonzero_size x.over x_some) (nonzero_size y.over y_some)) some in
    omega arith

-- l + f (y a + r) is p a + (l + f r), where p is f y
moved : (l f y a r p : Ratio) → Positive l → Positive f → Positive y → Positive a → Positive r → Positive p → IsProduct f y p
    → Alike (plus l (times f (plus (times y a) r))) (plus (times p a) (plus l (times f r)))
moved l f y a r p l_some f_some y_some a_some r_some p_some is =
    let ya = times_positive y a y_some a_some in
    let fr = times_positive f r f_some r_some in
    next (both_plus (itself l l_some) (spread f (times y a) r f_some ya r_some))
    (next (turn_plus l (times f (times y a)) (times f r) l_some (times_positive f (times y a) f_some ya) fr)
    (both_plus
    (next (back (group_times f y a f_some y_some a_some)) (both_times (alike (times f y) p (times_positive f y f_some y_some) p_some (sym is)) (itself a a_some)))
    (itself (plus l (times f r)) (plus_positive l (times f r) l_some fr))))

step_right : (left : Terms) (factor : Ratio) (second : ℕ × Ratio) (rest : Terms) (product : Ratio) → IsLowest factor → factor.over ≢ pos 0 → IsLowest product
    → IsProduct factor second.1 product → StartsAfter second.0 left → IsStep left factor (second ∷ rest) (Some (second.0, product)) left rest
step_right left factor second rest product factor_low factor_some low is after = record {
  sums = λ at values left_all right_all.
      let here = All-head HasNumber second rest right_all in
      (moved (total at left) factor second.1 (at second.0) (total at rest) product (total_positive at values left left_all) factor_low.positive here.0.positive (values second.0)
      (total_positive at values rest (All-tail HasNumber second rest right_all)) low.positive is).same;
  order = λ least left_line right_line. record {
    place = second.0;
    reached = right_line.ascends.0;
    fits = right_line.ascends.1;
    named = (refl, (low, product_some factor second.1 product low.positive is factor_some (All-head HasNumber second rest right_line.numbers).1));
    left_after = later second.0 least left after left_line;
    right_after = rest_line least second rest right_line;
  };
  left_tail = inl refl;
  right_tail = inr (second, refl);
  shorter = omega arith;
}

-- x a + l + f (y a + r) is s a + (l + f r), where s is x + f y
joined : (x l f y a r p s : Ratio) → Positive x → Positive l → Positive f → Positive y → Positive a → Positive r → Positive p → Positive s → IsProduct f y p → IsSum x p s
    → Alike (plus (plus (times x a) l) (times f (plus (times y a) r))) (plus (times s a) (plus l (times f r)))
joined x l f y a r p s x_some l_some f_some y_some a_some r_some p_some s_some is sum =
    let xa = times_positive x a x_some a_some in
    let pa = times_positive p a p_some a_some in
    let fr = times_positive f r f_some r_some in
    let more = plus_positive l (times f r) l_some fr in
    let ya = times_positive y a y_some a_some in
    let far = times_positive f (plus (times y a) r) f_some (plus_positive (times y a) r ya r_some) in
    next (group_plus (times x a) l (times f (plus (times y a) r)) xa l_some far)
    (next (both_plus (itself (times x a) xa) (moved l f y a r p l_some f_some y_some a_some r_some p_some is))
    (next (back (group_plus (times x a) (times p a) (plus l (times f r)) xa pa more))
    (both_plus
    (next (back (spread_right x p a x_some p_some a_some))
    (both_times (alike (plus x p) s (plus_positive x p x_some p_some) s_some (sym sum)) (itself a a_some)))
    (itself (plus l (times f r)) more))))

named_both : (position : ℕ) (sum : Ratio) (term : Option (ℕ × Ratio)) → IsLowest sum → IsNumbered position sum term → IfSome term (λ t. (t.0 ≡ position) × HasNumber t)
named_both position sum None low is = tt
named_both position sum (Some t) low is =
    (ap (λ u. u.0) is.0, subst (λ u. HasNumber u) (sym is.0) (low, is.1))

numbered_total : (at : ℕ → Ratio) (position : ℕ) (sum more : Ratio) (term : Option (ℕ × Ratio)) → AreValues at → Positive sum → Positive more → IsNumbered position sum term
    → Alike (plus (times sum (at position)) more) (plus (term_total at term) more)
numbered_total at position sum more None values s_some m_some is =
    let sa = times_positive sum (at position) s_some (values position) in
    let zero : (times sum (at position)).over ≡ pos 0 = ap (λ t. t *ℤ (at position).over) is ∙ (zero-*ℤ (at position).over) in
    next (drop_zero (times sum (at position)) more sa m_some zero) (back (drop_zero nothing more nothing_some m_some refl))
numbered_total at position sum more (Some t) values s_some m_some is =
    subst (λ u. Alike (plus (times sum (at position)) more) (plus (times u.1 (at u.0)) more)) (sym is.0)
    (itself (plus (times sum (at position)) more) (plus_positive (times sum (at position)) more (times_positive sum (at position) s_some (values position)) m_some))

step_both : (first : ℕ × Ratio) (left : Terms) (factor : Ratio) (second : ℕ × Ratio) (right : Terms) (product sum : Ratio) (term : Option (ℕ × Ratio))
    → first.0 ≡ second.0 → IsLowest factor → IsLowest product → IsProduct factor second.1 product → IsLowest sum → IsSum first.1 product sum → IsNumbered first.0 sum term
    → IsStep (first ∷ left) factor (second ∷ right) term left right
step_both first left factor second right product sum term same factor_low low is sum_low is_sum numbered = record {
  sums = λ at values left_all right_all.
      let here = All-head HasNumber first left left_all in
      let there = All-head HasNumber second right right_all in
      let l = total_positive at values left (All-tail HasNumber first left left_all) in
      let r = total_positive at values right (All-tail HasNumber second right right_all) in
      let moved_both = joined first.1 (total at left) factor second.1 (at first.0) (total at right) product sum here.0.positive l factor_low.positive there.0.positive (values first.0) r low.positive sum_low.positive is is_sum in
      let written = subst (λ n. Alike (plus (plus (times first.1 (at first.0)) (total at left)) (times factor (plus (times second.1 (at n)) (total at right))))
      (plus (times sum (at first.0)) (plus (total at left) (times factor (total at right))))) same moved_both in
      (next written (numbered_total at first.0 sum (plus (total at left) (times factor (total at right))) term values sum_low.positive
      (plus_positive (total at left) (times factor (total at right)) l (times_positive factor (total at right) factor_low.positive r)) numbered)).same;
  order = λ least left_line right_line. record {
    place = first.0;
    reached = left_line.ascends.0;
    fits = left_line.ascends.1;
    named = named_both first.0 sum term sum_low numbered;
    left_after = rest_line least first left left_line;
    right_after = subst (λ n. IsLineFrom (n + 1) right) (sym same) (rest_line least second right right_line);
  };
  left_tail = inr (first, refl);
  right_tail = inr (second, refl);
  shorter = omega arith;
}

-- the first line alone begins
pub step_first : (left : Terms) (factor : Ratio) (right : Terms) (first : ℕ × Ratio) (rest : Terms) → IsLowest factor → left ≡ first ∷ rest → right ≡ []
    → IsStep left factor right (Some first) rest right
unfolding StartsAfter
step_first left factor right first rest low e none =
    subst (λ l. IsStep l factor right (Some first) rest right) (sym e)
    (step_left first rest factor right low.positive (subst (λ r. StartsAfter first.0 r) (sym none) tt))

-- the first line begins before the second
pub step_before : (left : Terms) (factor : Ratio) (right : Terms) (first : ℕ × Ratio) (rest : Terms) (second : ℕ × Ratio) (others : Terms) → IsLowest factor
    → left ≡ first ∷ rest → right ≡ second ∷ others → first.0 < second.0 → IsStep left factor right (Some first) rest right
unfolding StartsAfter
step_before left factor right first rest second others low e f less =
    subst (λ l. IsStep l factor right (Some first) rest right) (sym e)
    (step_left first rest factor right low.positive (subst (λ r. StartsAfter first.0 r) (sym f) less))

-- a term of this position and number
term_is : (t : ℕ × Ratio) (position : ℕ) → t.0 ≡ position → (position, t.1) ≡ t
term_is t position e = ap (λ n. (n, t.1)) (sym e)

pub step_second : (left : Terms) (factor : Ratio) (right : Terms) (second : ℕ × Ratio) (rest : Terms) (term : ℕ × Ratio) → IsLowest factor → factor.over ≢ pos 0
    → (term.0 ≡ second.0) × IsLowest term.1 × IsProduct factor second.1 term.1 → right ≡ second ∷ rest → left ≡ []
    → IsStep left factor right (Some term) left rest
unfolding StartsAfter
step_second left factor right second rest term low some is e none =
    subst (λ t. IsStep left factor right (Some t) left rest) (term_is term second.0 is.0)
    (subst (λ r. IsStep left factor r (Some (second.0, term.1)) left rest) (sym e)
    (step_right left factor second rest term.1 low some is.1 is.2 (subst (λ l. StartsAfter second.0 l) (sym none) tt)))

pub step_after : (left : Terms) (factor : Ratio) (right : Terms) (second : ℕ × Ratio) (rest : Terms) (term : ℕ × Ratio) (first : ℕ × Ratio) (others : Terms)
    → IsLowest factor → factor.over ≢ pos 0 → (term.0 ≡ second.0) × IsLowest term.1 × IsProduct factor second.1 term.1 → right ≡ second ∷ rest → left ≡ first ∷ others → second.0 < first.0
    → IsStep left factor right (Some term) left rest
unfolding StartsAfter
step_after left factor right second rest term first others low some is e f less =
    subst (λ t. IsStep left factor right (Some t) left rest) (term_is term second.0 is.0)
    (subst (λ r. IsStep left factor r (Some (second.0, term.1)) left rest) (sym e)
    (step_right left factor second rest term.1 low some is.1 is.2 (subst (λ l. StartsAfter second.0 l) (sym f) less)))

pub step_same : (left : Terms) (factor : Ratio) (right : Terms) (first : ℕ × Ratio) (rest : Terms) (second : ℕ × Ratio) (others : Terms) (term : Option (ℕ × Ratio))
    → IsLowest factor → left ≡ first ∷ rest → right ≡ second ∷ others → first.0 ≡ second.0 → AddsTo first.0 first.1 factor second.1 term
    → IsStep left factor right term rest others
step_same left factor right first rest second others term low e f same adds =
    subst (λ l. IsStep l factor right term rest others) (sym e)
    (subst (λ r. IsStep (first ∷ rest) factor r term rest others) (sym f)
    (step_both first rest factor second others adds.product adds.sum term same low adds.product_lowest adds.is_product adds.sum_lowest adds.is_sum adds.is_term))
