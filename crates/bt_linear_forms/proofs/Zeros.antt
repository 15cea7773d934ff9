-- The line that is 0 where a line of the solved form holds, which a pivot adds to the other lines.
use Rattle.std.proofs.Common.{◌≡◌, ◌≢◌, ℕ, arith, lit<, pos, neg_ℤ, false, if◌then◌else◌, ◌==◌, [], ◌∷◌, Some, ap, sym, ◌∙◌, refl, subst, ◌⊎◌, inl, inr}
use Rattle.std.specs.List.{All}
use Rattle.std.proofs.lemmas.Int.{ints}
use Rattle.std.proofs.lemmas.Bool.Decides.{nat_tests}
use Rattle.std.proofs.Math.Nat.{one-dvd}
use Rattle.bt_frac.proofs.Ring.{neg_mul}
use Rattle.std.proofs.lemmas.List.Elements.{All-head, All-tail, All-cons, All-nil}
use Rattle.bt_frac.specs.Ratio.{Ratio, SameRatio, IsLowest, negated}
use Rattle.bt_frac.specs.Products.{IsDivision}
use Rattle.bt_frac.specs.Values.{AreValues, nothing, plus, times}
use Rattle.bt_farkas.specs.WeightedRows.{coefficient_at}
use Rattle.bt_linear_forms.specs.Lines.{one, Terms, HasNumber, IsLine, IsCombination, total}
use Rattle.bt_linear_forms.specs.Substituting.{IsZeroLine}
use Rattle.bt_linear_forms.proofs.Numbers.{Positive, nothing_some, zero_alike, Alike, alike, itself, back, next, both_plus, both_times, swap_plus, swap_times, group_times, drop_zero, plus_positive, times_positive, times_zero, differ_none, none_differ, negated_times}
use Rattle.bt_linear_forms.proofs.Totals.{total_positive}
use Rattle.bt_linear_forms.proofs.Indicators.{LacksPosition, decide, indicator, indicator_some, lacking_total, total_at, over_zero_of, number_has, times_one}

pub one_some : Positive one
one_some = omega arith

pub zero_of : (a : Ratio) → Alike a nothing → a.over ≡ pos 0
zero_of a h = over_zero_of a nothing h refl

pub negated_some : (a : Ratio) → Positive a → Positive (negated a)
negated_some a some = some

-- a sum of one term
pub one_term : (at : ℕ → Ratio) → AreValues at → (p : ℕ) (number : Ratio) → Positive number → Alike (total at ((p, number) ∷ [])) (times number (at p))
one_term at values p number some =
    let product = times_positive number (at p) some (values p) in
    next (swap_plus (times number (at p)) nothing product nothing_some) (drop_zero nothing (times number (at p)) nothing_some product refl)

pub combined_alike : (at : ℕ → Ratio) → AreValues at → (left : Terms) (factor : Ratio) (right terms : Terms) → Positive factor → All HasNumber left → All HasNumber right → IsLine terms
    → IsCombination left factor right terms → Alike (total at terms) (plus (total at left) (times factor (total at right)))
combined_alike at values left factor right terms some all all' line is =
    alike (total at terms) (plus (total at left) (times factor (total at right))) (total_positive at values terms line.numbers)
    (plus_positive (total at left) (times factor (total at right)) (total_positive at values left all) (times_positive factor (total at right) some (total_positive at values right all')))
    (is at values)

-- nothing is added where the second line is 0
pub plus_none : (at : ℕ → Ratio) → AreValues at → (left : Terms) (factor : Ratio) (right terms : Terms) → Positive factor → All HasNumber left → All HasNumber right → IsLine terms
    → IsCombination left factor right terms → Alike (total at right) nothing → Alike (total at terms) (total at left)
plus_none at values left factor right terms some all all' line is none =
    let l = total_positive at values left all in
    let r = total_positive at values right all' in
    let zero : (times factor (total at right)).over ≡ pos 0 = times_zero factor (total at right) (zero_of (total at right) none) in
    let product = times_positive factor (total at right) some r in
    next (combined_alike at values left factor right terms some all all' line is)
    (next (swap_plus (total at left) (times factor (total at right)) l product) (drop_zero (times factor (total at right)) (total at left) product l zero))

pub one_times : (a : Ratio) → Positive a → Alike (times one a) a
one_times a some = next (swap_times one a one_some some) (times_one a some)

-- the share of the number is 1
pub share_is : (number share : Ratio) → Positive number → Positive share → IsDivision one number share → Alike (times share number) one
share_is number share some some' is = alike (times share number) one (times_positive share number some' some) one_some (sym is)

pub share_some : (number share : Ratio) → Positive number → Positive share → IsDivision one number share → share.over ≢ pos 0
share_some number share some some' is e =
    let none : pos 1 ≡ pos 0 = over_zero_of one (times number share) (back (next (swap_times number share some some') (share_is number share some some' is))) (times_zero number share e) in
    absurd (grind (arith, ints))

pub one_lowest : IsLowest one
one_lowest = record { positive = one_some; coprime = (one-dvd 1, one-dvd 1, λ d p q. p); over_fits = lit< tt; under_fits = lit< tt }

pub one_number : (p : ℕ) → HasNumber (p, one)
one_number p = (one_lowest, λ e. grind (arith, ints))

pub negated_alike : {a b : Ratio} → Alike a b → Alike (negated a) (negated b)
negated_alike {a} {b} h =
    alike (negated a) (negated b) h.left h.right (neg_mul a.over (pos b.under) ∙ ap neg_ℤ h.same ∙ sym (neg_mul b.over (pos a.under)))

-- a number times minus 1
pub minus_one : (a : Ratio) → Positive a → Alike (times a (negated one)) (negated a)
minus_one a some =
    next (swap_times a (negated one) some one_some)
    (subst (λ t. Alike t (negated a)) (sym (negated_times one a)) (negated_alike (one_times a some)))

-- terms that all have a property name only positions that do
pub named_has : (P : ℕ → Type 0) (q : ℕ) (terms : Terms) (number : Ratio) → All (λ t. P t.0) terms → coefficient_at q terms ≡ Some number → P q
named_has P q [] number all e = absurd cc
named_has P q (t ∷ terms) number all e = elim (decide t.0 q) [
  | inl same ↦ subst P same (All-head (λ u. P u.0) t terms all)
  | inr apart ↦
      let test : (t.0 == q) ≡ false = grind (arith, nat_tests) in
      named_has P q terms number (All-tail (λ u. P u.0) t terms all) (sym (ap (λ b. if b then Some t.1 else coefficient_at q terms) test) ∙ e)
]

pub named_or_lacks : (P : ℕ → Type 0) (q : ℕ) (terms : Terms) → All (λ t. P t.0) terms → P q ⊎ LacksPosition q terms
named_or_lacks P q [] all = inr (All-nil (λ u. u.0 ≢ q))
named_or_lacks P q (t ∷ terms) all = elim (decide t.0 q) [
  | inl same ↦ inl (subst P same (All-head (λ u. P u.0) t terms all))
  | inr apart ↦ elim (named_or_lacks P q terms (All-tail (λ u. P u.0) t terms all)) [
    | inl h ↦ inl h
    | inr lacks ↦ inr (All-cons (λ u. u.0 ≢ q) t terms apart lacks)
  ]
]

pub all_from : (P : ℕ → Type 0) (terms : Terms) → ((q : ℕ) → P q ⊎ LacksPosition q terms) → All (λ t. P t.0) terms
all_from P [] h = All-nil (λ u. P u.0)
all_from P (t ∷ terms) h =
    All-cons (λ u. P u.0) t terms
    (elim (h t.0) [ inl p ↦ p | inr lacks ↦ absurd (All-head (λ u. u.0 ≢ t.0) t terms lacks refl) ])
    (all_from P terms (λ q. elim (h q) [ inl p ↦ inl p | inr lacks ↦ inr (All-tail (λ u. u.0 ≢ q) t terms lacks) ]))

pub total_along : (at at' : ℕ → Ratio) → AreValues at → AreValues at' → (terms : Terms) → All HasNumber terms → All (λ t. Alike (at t.0) (at' t.0)) terms → Alike (total at terms) (total at' terms)
total_along at at' values values' [] all same = itself nothing nothing_some
total_along at at' values values' (t ∷ terms) all same =
    let here = All-head HasNumber t terms all in
    both_plus (both_times (itself t.1 here.0.positive) (All-head (λ u. Alike (at u.0) (at' u.0)) t terms same))
    (total_along at at' values values' terms (All-tail HasNumber t terms all) (All-tail (λ u. Alike (at u.0) (at' u.0)) t terms same))

-- the zero line of a line that names the entering position
module _ (leaves enters : ℕ) (terms : Terms) (number : Ratio) (zero : Terms) (is_zero : IsZeroLine leaves terms number zero) (apart : leaves ≢ enters) (line : IsLine terms)
    (is_number : coefficient_at enters terms ≡ Some number) where
  pub number_some : HasNumber (enters, number)
  number_some = number_has enters terms (Some number) line.numbers (sym is_number)

  pub share_number : HasNumber (leaves, is_zero.share)
  share_number = (is_zero.share_lowest, share_some number is_zero.share number_some.0.positive is_zero.share_lowest.positive is_zero.is_share)

  pub alone : All HasNumber ((leaves, is_zero.share) ∷ [])
  alone = All-cons HasNumber (leaves, is_zero.share) [] share_number (All-nil HasNumber)

  pub zero_parts : (at : ℕ → Ratio) → AreValues at
      → Alike (total at zero) (plus (times is_zero.share (at leaves)) (negated (times is_zero.share (total at terms))))
  zero_parts at values =
      let share = is_zero.share in
      let some = is_zero.share_lowest.positive in
      let t = total_positive at values terms line.numbers in
      next (combined_alike at values ((leaves, share) ∷ []) (negated share) terms zero some alone line.numbers is_zero.line is_zero.combination)
      (both_plus (one_term at values leaves share some)
      (subst (λ r. Alike (times (negated share) (total at terms)) r) (negated_times share (total at terms))
      (itself (times (negated share) (total at terms)) (times_positive (negated share) (total at terms) some t))))

  -- the line is 0 where the leaving one holds
  pub zero_none : (at : ℕ → Ratio) → AreValues at → SameRatio (at leaves) (total at terms) → Alike (total at zero) nothing
  zero_none at values same =
      let share = is_zero.share in
      let some = is_zero.share_lowest.positive in
      let t = total_positive at values terms line.numbers in
      let shares : Alike (times share (at leaves)) (times share (total at terms)) = both_times (itself share some) (alike (at leaves) (total at terms) (values leaves) t same) in
      let parts = zero_parts at values in
      next parts (zero_alike (plus (times share (at leaves)) (negated (times share (total at terms)))) parts.right
      (differ_none (times share (at leaves)) (times share (total at terms)) shares.same))

  -- and only there
  pub leaving_holds : (at : ℕ → Ratio) → AreValues at → Alike (total at zero) nothing → Alike (at leaves) (total at terms)
  leaving_holds at values none =
      let share = is_zero.share in
      let some = is_zero.share_lowest.positive in
      let t = total_positive at values terms line.numbers in
      let x : Ratio = at leaves in
      let y : Ratio = total at terms in
      let parts = zero_parts at values in
      let same = none_differ (times share x) (times share y) (zero_of (plus (times share x) (negated (times share y))) (next (back parts) none)) in
      let shares : Alike (times share x) (times share y) = alike (times share x) (times share y) (times_positive share x some (values leaves)) (times_positive share y some t) same in
      let n = number_some.0.positive in
      let one_is : Alike (times number share) one = next (swap_times number share n some) (share_is number share n some is_zero.is_share) in
      let whole : (z : Ratio) → Positive z → Alike (times number (times share z)) z =
      λ z z_some. next (back (group_times number share z n some z_some)) (next (both_times one_is (itself z z_some)) (one_times z z_some)) in
      next (back (whole x (values leaves))) (next (both_times (itself number n) shares) (whole y t))

  -- the line has its number -1 at the entering position
  pub zero_at : Alike (total (indicator enters) zero) (negated one)
  zero_at =
      let share = is_zero.share in
      let some = is_zero.share_lowest.positive in
      let values = indicator_some enters in
      let none : Alike (total (indicator enters) ((leaves, share) ∷ [])) nothing =
      lacking_total enters ((leaves, share) ∷ []) alone (All-cons (λ u. u.0 ≢ enters) (leaves, share) [] apart (All-nil (λ u. u.0 ≢ enters))) in
      let here = total_at enters 0 terms number line is_number in
      let product : Alike (times (negated share) (total (indicator enters) terms)) (negated one) =
      next (both_times (itself (negated share) some) here)
      (subst (λ t. Alike t (negated one)) (sym (negated_times share number)) (negated_alike (share_is number share number_some.0.positive some is_zero.is_share))) in
      next (combined_alike (indicator enters) values ((leaves, share) ∷ []) (negated share) terms zero some alone line.numbers is_zero.line is_zero.combination)
      (next (both_plus none product) (drop_zero nothing (negated one) nothing_some one_some refl))
