-- The fractions in lowest terms that whole numbers over a denominator stand for.
use Rattle.std.proofs.Common.{◌≡◌, ◌≢◌, ℕ, ◌+◌, ◌*◌, ◌/◌, ◌%◌, ◌^◌, ◌<◌, ◌≤◌, ◌==◌, zero, suc, arith, ℤ, pos, negsuc, neg_ℤ, ◌*ℤ◌, ◌<ℤ◌, ◌↔◌, unsigned_abs, [], ◌∷◌, Bool, true, false, IsTrue, if◌then◌else◌, Option, Some, None, ap, sym, ◌∙◌, refl, subst, ◌++◌}
use Rattle.std.proofs.Common.{length, get_or, take, drop, IfSome}
use Rattle.std.specs.Option.{option_map}
use Rattle.std.specs.Int.{IsGcd}
use Rattle.std.specs.List.{All}
use Rattle.std.proofs.lemmas.List.{map-append, take_more, take_all}
use Rattle.std.proofs.lemmas.List.Elements.{All-head, All-tail, All-cons, All-nil, All-append, All-more}
use Rattle.std.proofs.lemmas.Int.{ints, unsigned_abs-mul}
use Rattle.std.proofs.lemmas.Bool.{false≢true}
use Rattle.std.proofs.lemmas.Bool.Decides.{nat_tests}
use Rattle.std.proofs.lemmas.Nat.Gcd.{IsGcd-from_zero, IsGcd-from_mod}
use Rattle.std.proofs.Math.IntN.{zero-*ℤ}
use Rattle.std.proofs.lemmas.Nat.{mul-lt}
use Rattle.std.proofs.Math.Nat.{div-mul_cancel, dvd-mul_right, mul_assoc}
use Prim.Native.Nat.{◌∣◌}
use Rattle.bt_frac.specs.Ratio.{Ratio, IsLowest, IsOver, IsQuotient, FitsPart, negated}
use Rattle.bt_frac.proofs.Euclid.{over_unique}
use Rattle.bt_frac.proofs.Gcds.{gcd_positive, lowest, quotient_positive, quotient_product, quotient_size}
use Rattle.bt_frac.proofs.Order.{mul_cancel}
use Rattle.bt_frac.proofs.Over.{under_positive, over_scaled}
use Rattle.bt_frac.proofs.Quotients.{quotient_is}
use Rattle.bt_frac.proofs.Ring.{neg_mul}
use Rattle.bt_farkas.specs.WeightedRows.{coefficient_at}
use Rattle.bt_linear_forms.specs.Lines.{signed_terms, Terms, IsLine, HasNumber}
use Rattle.bt_linear_forms.proofs.Shares.{negated_low}
use Rattle.bt_linear_forms.proofs.SignedLines.{signed_line}
use Rattle.bt_linear_forms.specs.Shorts.{divisor_within, divisor, is_below_zero, reduced, Numbers, terms_over, IsSmall, IsShort, whole_at, signed_numbers, Divides}

within_is : (divisions a b : ℕ) → b ≤ divisions → IsGcd a b (divisor_within divisions a b)
within_is zero a b h = IsGcd-from_zero a b (omega arith)
within_is (suc n) a b h = at (b == 0) refl (λ less. within_is n b (a % b) less)
  where
    at : (test : Bool) → (b == 0) ≡ test → (a % b ≤ n → IsGcd b (a % b) (divisor_within n b (a % b))) → IsGcd a b (if test then a else divisor_within n b (a % b))
    at true e rest = IsGcd-from_zero a b (grind (arith, nat_tests))
    at false e rest =
        let some : 0 < b = grind (arith, nat_tests) in
        IsGcd-from_mod a b (divisor_within n b (a % b)) (rest (omega arith))

divisor_is : (a b : ℕ) → IsGcd a b (divisor a b)
unfolding divisor
divisor_is a b = within_is b a b (omega arith)

below_zero : (z : ℤ) → (IsTrue (is_below_zero z) ↔ (z <ℤ pos 0))
below_zero (pos n) = (λ h. absurd (false≢true h), λ h. absurd (omega (arith, ints)))
below_zero (negsuc n) = (λ h. omega (arith, ints), λ h. refl)

-- it is in lowest terms
pub reduced_lowest : (z : ℤ) (under : ℕ) → 0 < under → under < 2 ^ 127 → FitsPart z → IsLowest (reduced z under)
unfolding reduced
reduced_lowest z under some fits small =
    let common = divisor_is (unsigned_abs z) under in
    lowest z (reduced z under).over under (divisor (unsigned_abs z) under) some fits small (gcd_positive (unsigned_abs z) under (divisor (unsigned_abs z) under) common some) common
    (quotient_size z (divisor (unsigned_abs z) under) (is_below_zero z) common.0)

-- it is the whole number over the denominator
pub reduced_over : (z : ℤ) (under : ℕ) → IsOver (reduced z under) z under
unfolding reduced
reduced_over z under =
    let common = divisor_is (unsigned_abs z) under in
    quotient_is z (pos under) (reduced z under).over (divisor (unsigned_abs z) under) false (quotient_product z (divisor (unsigned_abs z) under) (is_below_zero z) common.0 (below_zero z))
    (div-mul_cancel (divisor (unsigned_abs z) under) common.1) (λ h. absurd (false≢true h), λ h. absurd (omega (arith, ints)))

-- and the only such fraction
pub reduced_only : (r : Ratio) (z : ℤ) (under : ℕ) → 0 < under → under < 2 ^ 127 → FitsPart z → IsLowest r → IsOver r z under → r ≡ reduced z under
reduced_only r z under some fits small low is = over_unique r (reduced z under) z under some low (reduced_lowest z under some fits small) is (reduced_over z under)

-- it is 0 only where the whole number is
pub reduced_zero : (z : ℤ) (under : ℕ) → 0 < under → under < 2 ^ 127 → FitsPart z → (reduced z under).over ≡ pos 0 → z ≡ pos 0
reduced_zero z under some fits small e =
    mul_cancel z (pos 0) (reduced z under).under (reduced_lowest z under some fits small).positive
    (sym (reduced_over z under) ∙ ap (λ t. t *ℤ pos under) e ∙ zero-*ℤ (pos under) ∙ sym (zero-*ℤ (pos (reduced z under).under)))

small_fits : (z : ℤ) → IsSmall z → FitsPart z
small_fits z h = omega arith

under_fits : (under : ℕ) → under < 2 ^ 31 → under < 2 ^ 127
under_fits under h = omega arith

-- a small number that isn't 0 is a term's number
pub reduced_number : (p : ℕ) (z : ℤ) (under : ℕ) → 0 < under → under < 2 ^ 127 → FitsPart z → z ≢ pos 0 → HasNumber (p, reduced z under)
reduced_number p z under some fits small not = (reduced_lowest z under some fits small, λ e. not (reduced_zero z under some fits small e))

-- with the other sign
pub reduced_negated : (z : ℤ) (under : ℕ) → 0 < under → under < 2 ^ 127 → FitsPart z → reduced (neg_ℤ z) under ≡ negated (reduced z under)
reduced_negated z under some fits small =
    sym (reduced_only (negated (reduced z under)) (neg_ℤ z) under some fits (subst (λ n. n < 2 ^ 127) (sym (size z)) small) (negated_low (reduced z under) (reduced_lowest z under some fits small))
    (neg_mul (reduced z under).over (pos under) ∙ ap neg_ℤ (reduced_over z under) ∙ sym (neg_mul z (pos (reduced z under).under))))
  where
    size : (z : ℤ) → unsigned_abs (neg_ℤ z) ≡ unsigned_abs z
    size z = omega (arith, ints)

negated_over : (under : ℕ) (numbers : Numbers) → 0 < under → under < 2 ^ 31 → All (λ t. IsSmall t.1) numbers → terms_over under (signed_numbers true numbers) ≡ signed_terms true (terms_over under numbers)
negated_over under [] some fits all = refl
negated_over under (t ∷ numbers) some fits all =
    ap (λ n. (t.0, n) ∷ terms_over under (signed_numbers true numbers)) (reduced_negated t.1 under some (under_fits under fits) (small_fits t.1 (All-head (λ u. IsSmall u.1) t numbers all)))
    ∙ ap (λ l. (t.0, negated (reduced t.1 under)) ∷ l) (negated_over under numbers some fits (All-tail (λ u. IsSmall u.1) t numbers all))

negated_small : (numbers : Numbers) → All (λ t. IsSmall t.1) numbers → All (λ t. IsSmall t.1) (signed_numbers true numbers)
negated_small [] all = All-nil (λ u. IsSmall u.1)
negated_small (t ∷ numbers) all =
    All-cons (λ u. IsSmall u.1) (t.0, neg_ℤ t.1) (signed_numbers true numbers) (same t.1 (All-head (λ u. IsSmall u.1) t numbers all)) (negated_small numbers (All-tail (λ u. IsSmall u.1) t numbers all))
  where
    same : (z : ℤ) → IsSmall z → IsSmall (neg_ℤ z)
    same z h = omega (arith, ints)

-- in place, so many numbers with the other sign, and the others as they were
pub negated_here : (numbers : Numbers) (i : ℕ) (x : ℕ × ℤ) → get_or (signed_numbers true (take i numbers) ++ drop i numbers) i x ≡ get_or numbers i x
negated_here [] zero x = refl
negated_here [] (suc i) x = refl
negated_here (t ∷ numbers) zero x = refl
negated_here (t ∷ numbers) (suc i) x = negated_here numbers i x

pub signed_over : (told : Bool) (under : ℕ) (numbers : Numbers) (now : Terms) → IsShort under numbers → terms_over under numbers ≡ now → terms_over under (signed_numbers told numbers) ≡ signed_terms told now
signed_over false under numbers now short is = is
signed_over true under numbers now short is = negated_over under numbers short.some short.fits short.small ∙ ap (λ l. signed_terms true l) is

pub signed_short : (told : Bool) (under : ℕ) (numbers : Numbers) → IsShort under numbers → IsShort under (signed_numbers told numbers)
signed_short false under numbers short = short
signed_short true under numbers short = record {
  some = short.some;
  fits = short.fits;
  small = negated_small numbers short.small;
  line = subst (λ l. IsLine l) (sym (negated_over under numbers short.some short.fits short.small)) (signed_line true (terms_over under numbers) short.line);
}

-- the number of a position
pub number_over : (p under : ℕ) (numbers : Numbers) → coefficient_at p (terms_over under numbers) ≡ option_map (λ z. reduced z under) (whole_at p numbers)
number_over p under [] = refl
number_over p under (t ∷ numbers) = at (t.0 == p) (coefficient_at p (terms_over under numbers)) (whole_at p numbers) (number_over p under numbers)
  where
    at : (b : Bool) (rest : Option Ratio) (whole : Option ℤ) → rest ≡ option_map (λ z. reduced z under) whole
        → (if b then Some (reduced t.1 under) else rest) ≡ option_map (λ z. reduced z under) (if b then Some t.1 else whole)
    at true rest whole e = refl
    at false rest whole e = e

-- one more number
pub over_more : (under : ℕ) (numbers : Numbers) (p : ℕ) (z : ℤ) → terms_over under (numbers ++ (p, z) ∷ []) ≡ terms_over under numbers ++ (p, reduced z under) ∷ []
over_more under numbers p z = map-append (λ t. (t.0, reduced t.1 under)) numbers ((p, z) ∷ [])

divides_next : (d m n : ℕ) → Divides d m → Divides m n → Divides d n
divides_next d m n (k, e) (l, f) = (k * l, sym (mul_assoc d k l) ∙ ap (λ t. t * l) e ∙ f)

-- the quotient of two numbers that these are
pub found_is : (r : Ratio) (p q z : ℤ) (under : ℕ) → p ≡ z → q ≡ pos under → 0 < under → under < 2 ^ 32 → FitsPart z → IsLowest r → IsQuotient p q r → r ≡ reduced z under
found_is r p q z under first second some fits small low is =
    reduced_only r z under some (omega arith) small low (sym (ap (λ t. r.over *ℤ t) second) ∙ is ∙ ap (λ t. t *ℤ pos r.under) first)

-- there is one
pub is_found : (p q z : ℤ) (under : ℕ) → p ≡ z → q ≡ pos under → 0 < under → under < 2 ^ 32 → FitsPart z → ((f : Ratio) → IsLowest f → IsQuotient p q f → ⊥) → ⊥
is_found p q z under first second some fits small none =
    none (reduced z under) (reduced_lowest z under some (omega arith) small)
    (ap (λ t. (reduced z under).over *ℤ t) second ∙ reduced_over z under ∙ sym (ap (λ t. t *ℤ pos (reduced z under).under) first))

pub common_positive : (a b g : ℕ) → 0 < b → IsGcd a b g → 0 < g
common_positive a b g some h = gcd_positive a b g h some

-- one number times what the other is over their greatest common divisor is a common multiple
pub multiple_positive : (a b g : ℕ) → 0 < a → 0 < b → IsGcd a b g → 0 < a * (b / g)
multiple_positive a b g p q h = under_positive a (b / g) p (quotient_positive b g q h.1)

pub multiple_second : (a b g : ℕ) → IsGcd a b g → Divides b (a * (b / g))
multiple_second a b g h =
    let first : a / g * g ≡ a = div-mul_cancel g h.0 in
    let second : b / g * g ≡ b = div-mul_cancel g h.1 in
    let p = ap (λ t. t * (b / g)) first in
    let q = ap (λ t. t * (a / g)) second in
    (a / g, omega (arith, p, q))

divides_dvd : (d n : ℕ) → Divides d n → d ∣ n
divides_dvd d n (k, e) = subst (λ m. d ∣ m) e (dvd-mul_right d k)

-- a fraction over a multiple of its denominator
pub scaled_is : (r : Ratio) (under : ℕ) → IsLowest r → Divides r.under under → 0 < under → under < 2 ^ 31 → IsSmall r.over → reduced (r.over *ℤ pos (under / r.under)) under ≡ r
scaled_is r under low divides some fits small =
    let by : under / r.under * r.under ≡ under = div-mul_cancel r.under (divides_dvd r.under under divides) in
    let product : unsigned_abs (r.over *ℤ pos (under / r.under)) < 2 ^ 62 =
    rw unsigned_abs-mul (mul-lt (unsigned_abs r.over) (under / r.under) (2 ^ 31) (2 ^ 31) small (omega arith)) in
    sym (reduced_only r (r.over *ℤ pos (under / r.under)) under some (under_fits under fits) (omega arith) low
    (subst (λ n. IsOver r (r.over *ℤ pos (under / r.under)) n) by (over_scaled r r.over r.under (under / r.under) refl)))

-- and what it's found as
pub found_scaled : (o : Option ℤ) (z : ℤ) (under : ℕ) (r : Ratio) → IfSome o (λ n. n ≡ z) → reduced z under ≡ r → IfSome o (λ n. reduced n under ≡ r)
found_scaled None z under r is same = tt
found_scaled (Some n) z under r is same = ap (λ t. reduced t under) is ∙ same

-- so many terms of a line, over a denominator
pub record AreOver (under : ℕ) (terms : Terms) (i : ℕ) (numbers : Numbers) : Type 0 where
  pub same : terms_over under numbers ≡ take i terms
  pub small : All (λ t. IsSmall t.1) numbers

pub are_over_more : (under : ℕ) (terms : Terms) (i : ℕ) (x : ℕ × Ratio) (numbers : Numbers) (z : ℤ) → i < length terms → x ≡ get_or terms i x → reduced z under ≡ x.1 → IsSmall z
    → AreOver under terms i numbers → AreOver under terms (i + 1) (numbers ++ (x.0, z) ∷ [])
are_over_more under terms i x numbers z inside is number small so_far = record {
  same =
      over_more under numbers x.0 z ∙ ap (λ r. terms_over under numbers ++ (x.0, r) ∷ []) number ∙ ap (λ l. l ++ x ∷ []) so_far.same
      ∙ ap (λ t. take i terms ++ t ∷ []) is ∙ sym (take_more terms i x inside);
  small = All-append (λ t. IsSmall t.1) numbers ((x.0, z) ∷ []) so_far.small (All-cons (λ t. IsSmall t.1) (x.0, z) [] small (All-nil (λ t. IsSmall t.1)));
}

pub are_over_all : (under : ℕ) (terms : Terms) (i : ℕ) (numbers : Numbers) → length terms ≤ i → AreOver under terms i numbers → terms_over under numbers ≡ terms
are_over_all under terms i numbers past so_far = so_far.same ∙ take_all i terms past

pub over_short : (under : ℕ) (terms : Terms) (i : ℕ) (numbers : Numbers) → 0 < under → under < 2 ^ 31 → IsLine terms → length terms ≤ i → AreOver under terms i numbers → IsShort under numbers
over_short under terms i numbers some fits line past so_far =
    record { some = some; fits = fits; small = so_far.small; line = subst (λ l. IsLine l) (sym (are_over_all under terms i numbers past so_far)) line }

-- all of so many denominators divide a number, and one more does
pub divide_more : (terms : Terms) (i : ℕ) (x : ℕ × Ratio) (m n : ℕ) → i < length terms → x ≡ get_or terms i x → All (λ t. Divides t.1.under m) (take i terms) → Divides m n → Divides x.1.under n
    → All (λ t. Divides t.1.under n) (take (i + 1) terms)
divide_more terms i x m n inside is so_far next here =
    All-more (λ t. Divides t.1.under n) terms i x inside (λ k d h. divides_next (get_or (take i terms) k d).1.under m n (so_far k d h) next) (subst (λ t. Divides t.1.under n) is here)

-- the number of a position of a line
pub number_is : (p under : ℕ) (numbers : Numbers) (now : Terms) (o : Option ℤ) → terms_over under numbers ≡ now → o ≡ whole_at p numbers → option_map (λ z. reduced z under) o ≡ coefficient_at p now
number_is p under numbers now o is whole = ap (λ w. option_map (λ z. reduced z under) w) whole ∙ sym (number_over p under numbers) ∙ ap (λ l. coefficient_at p l) is

-- a whole number over a denominator
abbrev pub over_of : ℤ → ℕ → Ratio
over_of z under = record { over = z; under = under }

pub length_over : (under : ℕ) (numbers : Numbers) → length (terms_over under numbers) ≡ length numbers
length_over under [] = refl
length_over under (t ∷ numbers) = ap suc (length_over under numbers)

term_over : ℕ → ℕ × ℤ → ℕ × Ratio
term_over under t = (t.0, reduced t.1 under)

pub item_over : (under : ℕ) (numbers : Numbers) (i : ℕ) (x : ℕ × ℤ) → i < length numbers → x ≡ get_or numbers i x
    → (x.0, reduced x.1 under) ≡ get_or (terms_over under numbers) i (x.0, reduced x.1 under)
unfolding term_over
item_over under numbers i x inside is = ap (term_over under) is ∙ here numbers i inside
  where
    here : (numbers : Numbers) (i : ℕ) → i < length numbers → term_over under (get_or numbers i x) ≡ get_or (terms_over under numbers) i (x.0, reduced x.1 under)
    here [] i inside = absurd (omega arith)
    here (t ∷ numbers) zero inside = refl
    here (t ∷ numbers) (suc i) inside = here numbers i (omega arith)
