-- Quotients of a line's numbers, negated.
use Rattle.std.proofs.Common.{◌≡◌, ℕ, ◌+◌, arith, unsigned_abs, ◌^◌, ◌<◌, pos, neg_ℤ, ℤ, [], ◌∷◌, Some, None, ap, sym, ◌∙◌, refl, subst, inl, inr}
use Rattle.std.specs.List.{All, AllZip}
use Rattle.std.proofs.lemmas.Int.{ints}
use Rattle.std.proofs.lemmas.List.Elements.{All-head, All-tail, All-cons, All-nil}
use Rattle.std.specs.Int.{IsGcd}
use Rattle.bt_frac.specs.Ratio.{Ratio, IsLowest, negated}
use Rattle.bt_frac.specs.Products.{IsDivision}
use Rattle.bt_frac.specs.Values.{AreValues, nothing, plus, times}
use Rattle.bt_farkas.specs.WeightedRows.{coefficient_at}
use Rattle.bt_linear_forms.specs.Lines.{one, Terms, HasNumber, IsLineFrom, IsLine, IsCombination, total}
use Rattle.bt_linear_forms.specs.inner.Shares.{IsNegatedShare, AreNegatedShares}
use Rattle.bt_linear_forms.specs.Substituting.{IsZeroLine}
use Rattle.bt_linear_forms.proofs.NamedTerms.{number_here, number_later}
use Rattle.bt_linear_forms.proofs.Indicators.{decide, over_zero_of, times_one}
use Rattle.bt_linear_forms.proofs.Numbers.{Positive, nothing_some, Alike, alike, itself, back, next, both_plus, both_times, swap_times, group_times, spread, times_positive, times_zero, negated_times, zero_alike}
use Rattle.bt_linear_forms.proofs.Totals.{total_positive, rest_line}
use Rattle.bt_linear_forms.proofs.Walks.{line_cons}
use Rattle.bt_linear_forms.proofs.Zeros.{one_some, one_lowest, one_number, one_times, share_is, negated_alike, combined_alike}

pub negated_twice : (a : Ratio) → negated (negated a) ≡ a
negated_twice a = ap (λ z. make z a.under) (twice a.over)
  where
    make : ℤ → ℕ → Ratio
    make z n = record { over = z; under = n }

    twice : (z : ℤ) → neg_ℤ (neg_ℤ z) ≡ z
    twice z = omega (arith, ints)

pub negated_low : (r : Ratio) → IsLowest r → IsLowest (negated r)
negated_low r low =
    let e : unsigned_abs (neg_ℤ r.over) ≡ unsigned_abs r.over = size r.over in
    record {
      positive = low.positive;
      coprime = subst (λ n. IsGcd n r.under 1) (sym e) low.coprime;
      over_fits = subst (λ n. n < 2 ^ 127) (sym e) low.over_fits;
      under_fits = low.under_fits;
    }
  where
    size : (z : ℤ) → unsigned_abs (neg_ℤ z) ≡ unsigned_abs z
    size z = omega (arith, ints)

negated_zero : (a : Ratio) → (negated a).over ≡ pos 0 → a.over ≡ pos 0
negated_zero a e = none a.over e
  where
    none : (z : ℤ) → neg_ℤ z ≡ pos 0 → z ≡ pos 0
    none z h = omega (arith, ints)

-- a quotient times the divisor
quotient_times : (a by quotient : Ratio) → Positive a → Positive by → Positive quotient → IsDivision a by quotient → Alike (times quotient by) a
quotient_times a by quotient a_some by_some some is = alike (times quotient by) a (times_positive quotient by some by_some) a_some (sym is)

-- a quotient is the number times 1 over the divisor
pub quotient_is : (a by quotient share : Ratio) → Positive a → Positive by → Positive quotient → Positive share → IsDivision a by quotient → IsDivision one by share → Alike quotient (times share a)
quotient_is a by quotient share a_some by_some some share_some is is_share =
    next (back (times_one quotient some))
    (next (both_times (itself quotient some) (back (share_is by share by_some share_some is_share)))
    (next (back (group_times quotient share by some share_some by_some))
    (next (both_times (swap_times quotient share some share_some) (itself by by_some))
    (next (group_times share quotient by share_some some by_some)
    (both_times (itself share share_some) (quotient_times a by quotient a_some by_some some is))))))

share_number : (by : Ratio) (t s : ℕ × Ratio) → HasNumber t → Positive by → IsNegatedShare by t s → HasNumber s
share_number by t s has by_some share = (
  share.lowest,
  λ e.
      let none : (negated share.quotient).over ≡ pos 0 = ap (λ r. r.over) (sym share.is_negated) ∙ e in
      let zero = negated_zero share.quotient none in
      has.1
      (over_zero_of t.1 (times by share.quotient)
      (next (back (quotient_times t.1 by share.quotient has.0.positive by_some share.quotient_lowest.positive share.is_quotient))
      (swap_times share.quotient by share.quotient_lowest.positive by_some))
      (times_zero by share.quotient zero)),
)

pub shares_line : (by : Ratio) (least : ℕ) (terms shares : Terms) → Positive by → IsLineFrom least terms → AllZip (IsNegatedShare by) terms shares → IsLineFrom least shares
shares_line by least [] [] some line each = record { ascends = tt; numbers = All-nil HasNumber }
shares_line by least [] (s ∷ shares) some line each = absurd each
shares_line by least (t ∷ terms) [] some line each = absurd each
shares_line by least (t ∷ terms) (s ∷ shares) some line each =
    line_cons least s shares t.0 line.ascends.0 each.0.position line.ascends.1 (share_number by t s (All-head HasNumber t terms line.numbers) some each.0)
    (shares_line by (t.0 + 1) terms shares some (rest_line least t terms line) each.1)

pub shares_lack : (by : Ratio) (p : ℕ) (terms shares : Terms) → AllZip (IsNegatedShare by) terms shares → coefficient_at p terms ≡ None → coefficient_at p shares ≡ None
shares_lack by p [] [] each none = refl
shares_lack by p [] (s ∷ shares) each none = absurd each
shares_lack by p (t ∷ terms) [] each none = absurd each
shares_lack by p (t ∷ terms) (s ∷ shares) each none = elim (decide t.0 p) [
  | inl same ↦ let both : Some t.1 ≡ None = sym (number_here t terms p same) ∙ none in absurd cc
  | inr apart ↦
      number_later s shares p (λ e. apart (sym each.0.position ∙ e)) ∙ shares_lack by p terms shares each.1 (sym (number_later t terms p apart) ∙ none)
]

-- the negated quotients add up to 1 over the divisor, negated, times the sum of the line
shares_total : (at : ℕ → Ratio) → AreValues at → (by share : Ratio) (terms shares : Terms) → Positive by → Positive share → IsDivision one by share → All HasNumber terms
    → AllZip (IsNegatedShare by) terms shares → Alike (total at shares) (times (negated share) (total at terms))
shares_total at values by share [] [] by_some some is all each =
    back (zero_alike (times (negated share) nothing) (times_positive (negated share) nothing some nothing_some) (times_zero (negated share) nothing refl))
shares_total at values by share [] (s ∷ shares) by_some some is all each = absurd each
shares_total at values by share (t ∷ terms) [] by_some some is all each = absurd each
shares_total at values by share (t ∷ terms) (s ∷ shares) by_some some is all each =
    let here = All-head HasNumber t terms all in
    let rest = All-tail HasNumber t terms all in
    let number : Alike s.1 (times (negated share) t.1) =
    subst (λ r. Alike r (times (negated share) t.1)) (sym each.0.is_negated)
    (subst (λ r. Alike (negated each.0.quotient) r) (sym (negated_times share t.1))
    (negated_alike (quotient_is t.1 by each.0.quotient share here.0.positive by_some each.0.quotient_lowest.positive some each.0.is_quotient is))) in
    let position : Alike (at s.0) (at t.0) = subst (λ p. Alike (at s.0) (at p)) each.0.position (itself (at s.0) (values s.0)) in
    next (both_plus (next (both_times number position) (group_times (negated share) t.1 (at t.0) some here.0.positive (values t.0)))
    (shares_total at values by share terms shares by_some some is rest each.1))
    (back (spread (negated share) (times t.1 (at t.0)) (total at terms) some (times_positive t.1 (at t.0) here.0.positive (values t.0)) (total_positive at values terms rest)))

-- minus the quotient of -1 is the quotient of 1
share_of : (by : Ratio) (position : ℕ) (s : ℕ × Ratio) → Positive by → IsNegatedShare by (position, negated one) s → IsDivision one by s.1
share_of by position s by_some share =
    let q = share.quotient in
    let some = share.quotient_lowest.positive in
    let minus : Alike (times (negated q) by) one =
    subst (λ r. Alike r one) (sym (negated_times q by))
    (subst (λ r. Alike (negated (times q by)) r) (negated_twice one) (negated_alike (quotient_times (negated one) by q one_some by_some some share.is_quotient))) in
    subst (λ r. IsDivision one by r) (sym share.is_negated) (sym minus.same)

-- the share of the position and those of its line are the zero line
pub shares_zero : (position : ℕ) (terms : Terms) (number : Ratio) (s : ℕ × Ratio) (shares zero : Terms) → IsLine terms → HasNumber (position, number) → IsNegatedShare number (position, negated one) s
    → AreNegatedShares number terms shares → IsLine zero → IsCombination (s ∷ []) one shares zero → IsZeroLine position terms number zero
shares_zero position terms number s shares zero line has share are line' combination =
    let is = share_of number position s has.0.positive share in
    record {
      line = line';
      share = s.1;
      share_lowest = share.lowest;
      is_share = is;
      combination = λ at values.
          let some = share.lowest.positive in
          let sum = shares_total at values number s.1 terms shares has.0.positive some is line.numbers are.each in
          let t = total_positive at values terms line.numbers in
          (next (combined_alike at values (s ∷ []) one shares zero one_some alone_number are.line.numbers line' combination)
          (both_plus
          (subst (λ p. Alike (total at (s ∷ [])) (plus (times s.1 (at p)) nothing)) share.position (itself (total at (s ∷ [])) (total_positive at values (s ∷ []) alone_number)))
          (next (one_times (total at shares) sum.left) sum))).same;
    }
  where
    alone_number : All HasNumber (s ∷ [])
    alone_number = All-cons HasNumber s [] (share_number number (position, negated one) s (negated_low one one_lowest, λ e. (one_number position).1 (negated_zero one e)) has.0.positive share) (All-nil HasNumber)
