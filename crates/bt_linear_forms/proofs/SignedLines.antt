-- Lines with the other sign.
use Rattle.std.proofs.Common.{◌≡◌, ◌≢◌, ℕ, ◌+◌, ◌-◌, ◌^◌, ◌<◌, arith, pos, ℤ, neg_ℤ, Bool, true, false, [], ◌∷◌, length, suc, Some, None, ap, sym, ◌∙◌, refl, subst, inl, inr}
use Rattle.std.specs.List.{All}
use Rattle.std.proofs.lemmas.Int.{ints}
use Rattle.std.proofs.lemmas.List.Elements.{All-head, All-tail, All-cons, All-nil}
use Rattle.bt_frac.specs.Ratio.{Ratio, negated}
use Rattle.bt_frac.specs.Values.{AreValues, nothing, plus, times}
use Rattle.bt_farkas.specs.WeightedRows.{coefficient_at}
use Rattle.bt_linear_forms.specs.Lines.{one, Terms, HasNumber, IsLineFrom, IsLine, IsCombination, total, signed_terms}
use Rattle.bt_linear_forms.specs.Substituting.{IsZeroLine, IsSubstituted, IsEntering}
use Rattle.bt_linear_forms.proofs.NamedTerms.{number_here, number_later}
use Rattle.bt_linear_forms.proofs.Indicators.{decide, number_has}
use Rattle.bt_linear_forms.proofs.Numbers.{negated_plus, Positive, nothing_some, Alike, itself, back, next, both_plus, both_times, swap_plus, swap_times, group_times, spread, drop_zero, turn_plus, plus_positive, times_positive, differ_none, negated_times}
use Rattle.bt_linear_forms.proofs.Shares.{negated_twice, negated_low}
use Rattle.bt_linear_forms.proofs.Totals.{total_positive, rest_line}
use Rattle.bt_linear_forms.proofs.Zeros.{one_some, one_term, one_times, one_number, share_is, share_some, negated_alike, combined_alike}

-- a number with the other sign
negated_number : (t : ℕ × Ratio) → HasNumber t → HasNumber (t.0, negated t.1)
negated_number t has = (negated_low t.1 has.0, λ e. has.1 (none t.1.over e))
  where
    none : (z : ℤ) → neg_ℤ z ≡ pos 0 → z ≡ pos 0
    none z h = omega (arith, ints)

pub negated_line : (least : ℕ) (terms : Terms) → IsLineFrom least terms → IsLineFrom least (signed_terms true terms)
negated_line least [] line = record { ascends = tt; numbers = All-nil HasNumber }
negated_line least (t ∷ terms) line =
    let rest = negated_line (t.0 + 1) terms (rest_line least t terms line) in
    record {
      ascends = (line.ascends.0, line.ascends.1, rest.ascends);
      numbers = All-cons HasNumber (t.0, negated t.1) (signed_terms true terms) (negated_number t (All-head HasNumber t terms line.numbers)) rest.numbers;
    }

pub signed_line : (told : Bool) (terms : Terms) → IsLine terms → IsLine (signed_terms told terms)
signed_line false terms line = line
signed_line true terms line = negated_line 0 terms line

pub signed_length : (told : Bool) (terms : Terms) → length (signed_terms told terms) ≡ length terms
signed_length false terms = refl
signed_length true [] = refl
signed_length true (t ∷ terms) = ap suc (signed_length true terms)

-- what it adds up to has the other sign
pub negated_total : (at : ℕ → Ratio) → AreValues at → (terms : Terms) → All HasNumber terms → Alike (total at (signed_terms true terms)) (negated (total at terms))
negated_total at values [] all = itself nothing nothing_some
negated_total at values (t ∷ terms) all =
    let rest = All-tail HasNumber t terms all in
    let here = times_positive t.1 (at t.0) (All-head HasNumber t terms all).0.positive (values t.0) in
    subst (λ r. Alike (plus (times (negated t.1) (at t.0)) (total at (signed_terms true terms))) r) (sym (negated_plus (times t.1 (at t.0)) (total at terms)))
    (both_plus (subst (λ r. Alike r (negated (times t.1 (at t.0)))) (sym (negated_times t.1 (at t.0))) (itself (negated (times t.1 (at t.0))) here)) (negated_total at values terms rest))

-- its numbers have the other sign
negated_none : (q : ℕ) (terms : Terms) → coefficient_at q terms ≡ None → coefficient_at q (signed_terms true terms) ≡ None
negated_none q [] none = refl
negated_none q (t ∷ terms) none = elim (decide t.0 q) [
  | inl same ↦ let both : Some t.1 ≡ None = sym (number_here t terms q same) ∙ none in absurd cc
  | inr apart ↦ number_later (t.0, negated t.1) (signed_terms true terms) q apart ∙ negated_none q terms (sym (number_later t terms q apart) ∙ none)
]

negated_named : (q : ℕ) (terms : Terms) (number : Ratio) → coefficient_at q terms ≡ Some number → coefficient_at q (signed_terms true terms) ≡ Some (negated number)
negated_named q [] number named = absurd cc
negated_named q (t ∷ terms) number named = elim (decide t.0 q) [
  | inl same ↦
      let both : Some t.1 ≡ Some number = sym (number_here t terms q same) ∙ named in
      let is : t.1 ≡ number = cc in
      number_here (t.0, negated t.1) (signed_terms true terms) q same ∙ ap (λ n. Some (negated n)) is
  | inr apart ↦ number_later (t.0, negated t.1) (signed_terms true terms) q apart ∙ negated_named q terms number (sym (number_later t terms q apart) ∙ named)
]

-- the other sign twice
pub negated_back : (terms : Terms) → signed_terms true (signed_terms true terms) ≡ terms
negated_back [] = refl
negated_back (t ∷ terms) = ap (λ n. (t.0, n) ∷ signed_terms true (signed_terms true terms)) (negated_twice t.1) ∙ ap (λ l. t ∷ l) (negated_back terms)

-- the number of a line's position
pub number_of_named : (q : ℕ) (terms : Terms) (number : Ratio) → All HasNumber terms → coefficient_at q terms ≡ Some number → HasNumber (q, number)
number_of_named q terms number all named = number_has q terms (Some number) all (sym named)

-- a line is changed as the same line with the other sign is
pub substituted_signed : (enters : ℕ) (zero : Terms) (told : Bool) (old new : Terms) → All HasNumber zero → All HasNumber old → IsSubstituted enters zero (Some old) (Some new)
    → IsSubstituted enters zero (Some (signed_terms told old)) (Some (signed_terms told new))
substituted_signed enters zero false old new all old_all is = is
substituted_signed enters zero true old new all old_all (inl (lacks, same)) =
    let is : new ≡ old = cc in
    inl (negated_none enters old lacks, ap (λ l. Some (signed_terms true l)) is)
substituted_signed enters zero true old new all old_all (inr (number, named, (terms', is, line, combination))) =
    let same : new ≡ terms' = cc in
    let some = (number_of_named enters old number old_all named).0.positive in
    inr (
      negated number,
      negated_named enters old number named,
      (
        signed_terms true terms',
        ap (λ l. Some (signed_terms true l)) same,
        negated_line 0 terms' line,
        λ at values.
            let whole = negated_alike (combined_alike at values old number zero terms' some old_all all line combination) in
            let zeros = total_positive at values zero all in
            let parts : Alike (negated (plus (total at old) (times number (total at zero)))) (plus (negated (total at old)) (times (negated number) (total at zero))) =
            subst (λ r. Alike r (plus (negated (total at old)) (times (negated number) (total at zero)))) (sym (negated_plus (total at old) (times number (total at zero))))
            (subst (λ r. Alike (plus (negated (total at old)) (negated (times number (total at zero)))) (plus (negated (total at old)) r)) (sym (negated_times number (total at zero)))
            (itself (plus (negated (total at old)) (negated (times number (total at zero))))
            (plus_positive (negated (total at old)) (negated (times number (total at zero))) (total_positive at values old old_all) (times_positive number (total at zero) some zeros)))) in
            (next (negated_total at values terms' line.numbers)
            (next whole
            (next parts
            (both_plus (back (negated_total at values old old_all)) (itself (times (negated number) (total at zero)) (times_positive (negated number) (total at zero) some zeros)))))).same,
      ),
    )

-- a line of one position
pub alone_line : (p : ℕ) → p < 2 ^ 64 - 1 → IsLine ((p, one) ∷ [])
alone_line p fits = record { ascends = (omega arith, fits, tt); numbers = All-cons HasNumber (p, one) [] (one_number p) (All-nil HasNumber) }

-- n (s a - s t) and t are a, where s is 1 over n
shares_left : (t n s a : Ratio) → Positive t → Positive n → Positive s → Positive a → Alike (times s n) one → Alike (plus t (times n (plus (times s a) (times (negated s) t)))) a
shares_left t n s a t_some n_some s_some a_some is =
    let sa = times_positive s a s_some a_some in
    let st = times_positive (negated s) t s_some t_some in
    let unit : Alike (times n s) one = next (swap_times n s n_some s_some) is in
    let first : Alike (times n (times s a)) a = next (back (group_times n s a n_some s_some a_some)) (next (both_times unit (itself a a_some)) (one_times a a_some)) in
    let share : Alike (times n (times s t)) t = next (back (group_times n s t n_some s_some t_some)) (next (both_times unit (itself t t_some)) (one_times t t_some)) in
    let swapped : Alike (times n (times (negated s) t)) (negated (times n (times s t))) =
    next (swap_times n (times (negated s) t) n_some st)
    (subst (λ r. Alike (times r n) (negated (times n (times s t)))) (sym (negated_times s t))
    (subst (λ r. Alike r (negated (times n (times s t)))) (sym (negated_times (times s t) n))
    (negated_alike (swap_times (times s t) n (times_positive s t s_some t_some) n_some)))) in
    let second : Alike (times n (times (negated s) t)) (negated t) = next swapped (negated_alike share) in
    let whole = both_plus (itself t t_some) (next (spread n (times s a) (times (negated s) t) n_some sa st) (both_plus first second)) in
    let none : (plus t (negated t)).over ≡ pos 0 = differ_none t t refl in
    let nil = plus_positive t (negated t) t_some t_some in
    next whole (next (turn_plus t a (negated t) t_some a_some t_some) (next (swap_plus a (plus t (negated t)) a_some nil) (drop_zero (plus t (negated t)) a nil a_some none)))

-- the leaving line with its number times the zero line is the leaving position
pub leaving_substituted : (leaves enters : ℕ) (terms : Terms) (number : Ratio) (zero : Terms) → leaves < 2 ^ 64 - 1 → IsLine terms → coefficient_at enters terms ≡ Some number
    → IsZeroLine leaves terms number zero → IsSubstituted enters zero (Some terms) (Some ((leaves, one) ∷ []))
leaving_substituted leaves enters terms number zero fits line named is =
    let n_some = (number_of_named enters terms number line.numbers named).0.positive in
    let s_some = is.share_lowest.positive in
    let lone : All HasNumber ((leaves, is.share) ∷ []) = All-cons HasNumber (leaves, is.share) [] (is.share_lowest, share_not) (All-nil HasNumber) in
    inr (
      number,
      named,
      (
        (leaves, one) ∷ [],
        refl,
        alone_line leaves fits,
        λ at values.
            let t_some = total_positive at values terms line.numbers in
            let z = combined_alike at values ((leaves, is.share) ∷ []) (negated is.share) terms zero s_some lone line.numbers is.line is.combination in
            let zero_is = next z (both_plus (one_term at values leaves is.share s_some) (itself (times (negated is.share) (total at terms)) (times_positive (negated is.share) (total at terms) s_some t_some))) in
            let made = both_plus (itself (total at terms) t_some) (both_times (itself number n_some) zero_is) in
            (next (one_term at values leaves one one_some) (next (one_times (at leaves) (values leaves))
            (back (next made (shares_left (total at terms) number is.share (at leaves) t_some n_some s_some (values leaves) (share_is number is.share n_some s_some is.is_share)))))).same,
      ),
    )
  where
    share_not : is.share.over ≢ pos 0
    share_not = share_some number is.share (number_of_named enters terms number line.numbers named).0.positive is.share_lowest.positive is.is_share

-- the entering position alone is changed to its line
pub entering_substituted : (enters : ℕ) (zero entering : Terms) → IsEntering enters zero entering → IsSubstituted enters zero (Some ((enters, one) ∷ [])) (Some entering)
entering_substituted enters zero entering is = inr (one, number_here (enters, one) [] enters refl, (entering, refl, is.line, is.combination))

-- and back
pub substituted_entering : (enters : ℕ) (zero entering : Terms) → IsSubstituted enters zero (Some ((enters, one) ∷ [])) (Some entering) → IsEntering enters zero entering
substituted_entering enters zero entering (inl (lacks, same)) = let both : Some one ≡ None = sym (number_here (enters, one) [] enters refl) ∙ lacks in absurd cc
substituted_entering enters zero entering (inr (number, named, (terms', is, line, combination))) =
    let both : Some one ≡ Some number = sym (number_here (enters, one) [] enters refl) ∙ named in
    let number_is : number ≡ one = cc in
    let terms_is : terms' ≡ entering = cc in
    record {
      line = subst (λ l. IsLine l) terms_is line;
      combination = subst (λ l. IsCombination ((enters, one) ∷ []) one zero l) terms_is (subst (λ n. IsCombination ((enters, one) ∷ []) n zero terms') number_is combination);
    }
