-- The lines that a pivot forms of short lines.
use Rattle.std.proofs.Common.{FitsSigned, lit<, ◌≡◌, ◌≢◌, ℕ, ◌+◌, ◌-◌, ◌*◌, ◌/◌, ◌^◌, ◌<◌, ◌≤◌, arith, ℤ, pos, neg_ℤ, ◌*ℤ◌, ◌-ℤ◌, unsigned_abs, [], ◌∷◌, ◌++◌, length, take, drop, set, get_or, Option, Some, None, Result, Ok, Err, IfOk, IfSome, ap, sym, ◌∙◌, refl, subst}
use Rattle.std.specs.List.{All}
use Rattle.std.proofs.lemmas.Int.{ints, fits_signed_from_abs}
use Rattle.std.proofs.lemmas.List.{length-map, get_or-map, drop_more, take_more_set, drop-set-lt, length-set, take_all}
use Rattle.std.proofs.lemmas.List.Elements.{All-cons, All-nil, All-more}
use Rattle.std.proofs.lemmas.Nat.Gcd.{dvd_trans}
use Rattle.std.specs.Int.{w64, IsGcd}
use Rattle.std.proofs.Math.Nat.{div-mul_cancel, mul_comm}
use Prim.Native.Nat.{◌∣◌}
use Rattle.bt_frac.specs.Ratio.{Ratio, SameRatio, IsOver, FitsPart, negated}
use Rattle.bt_frac.specs.Products.{IsDivision}
use Rattle.bt_frac.specs.Values.{times}
use Rattle.bt_frac.proofs.Gcds.{quotient_positive}
use Rattle.bt_frac.proofs.Over.{over_scaled}
use Rattle.bt_farkas.specs.WeightedRows.{coefficient_at}
use Rattle.bt_linear_forms.specs.Lines.{one, Terms, HasNumber, IsLine, IsCombination}
use Rattle.bt_linear_forms.specs.Shorts.{Numbers, reduced, terms_over, IsSmall, IsShort, whole_at, AreScales}
use Rattle.bt_linear_forms.specs.inner.ShortSteps.{IsShortSum}
use Rattle.bt_linear_forms.specs.Substituting.{IsZeroLine, IsEntering}
use Rattle.bt_linear_forms.proofs.Numbers.{alike, back, next, both_times, times_positive}
use Rattle.bt_linear_forms.proofs.Shorts.{reduced_lowest, reduced_over, reduced_only, reduced_number, reduced_negated, number_is, common_positive, AreOver, are_over_more}
use Rattle.bt_linear_forms.proofs.ShortWalks.{whole_over, reduced_alike}
use Rattle.bt_linear_forms.proofs.Zeros.{one_some, one_lowest}

-- the greatest common divisor with one more number
pub common_more : (terms : Numbers) (i : ℕ) (d : ℕ × ℤ) (common under size g : ℕ) → i < length terms → size ≡ unsigned_abs (get_or terms i d).1 → IsGcd size common g
    → (0 < common) × (common ∣ under) × All (λ t. common ∣ unsigned_abs t.1) (take i terms) → (0 < g) × (g ∣ under) × All (λ t. g ∣ unsigned_abs t.1) (take (i + 1) terms)
common_more terms i d common under size g inside size_is is so_far = (
  common_positive size common g so_far.0 is,
  dvd_trans g is.1 so_far.1,
  All-more (λ t. g ∣ unsigned_abs t.1) terms i d inside (λ k e h. dvd_trans g is.1 (so_far.2 k e h)) (subst (λ n. g ∣ n) size_is is.0),
)

-- a number and its denominator, both divided by a number
lowered_same : (z q : ℤ) (u g : ℕ) → q *ℤ pos g ≡ z → g ∣ u → 0 < u → u < 2 ^ 31 → IsSmall q → IsSmall z → reduced q (u / g) ≡ reduced z u
lowered_same z q u g is divides some fits small small' =
    let v_some : 0 < u / g = quotient_positive u g some divides in
    let v_fits : u / g < 2 ^ 127 = omega arith in
    let by : g * (u / g) ≡ u = mul_comm g (u / g) ∙ div-mul_cancel g divides in
    reduced_only (reduced q (u / g)) z u some (omega arith) (omega arith) (reduced_lowest q (u / g) v_some v_fits (omega arith))
    (subst (λ n. IsOver (reduced q (u / g)) z n) by (subst (λ t. IsOver (reduced q (u / g)) t (g * (u / g))) is (over_scaled (reduced q (u / g)) q (u / g) g (reduced_over q (u / g)))))

lowered_more : (u g : ℕ) (terms : Numbers) (i : ℕ) (d : ℕ × ℤ) (numbers : Numbers) (q : ℤ) → 0 < u → u < 2 ^ 31 → g ∣ u → All (λ t. IsSmall t.1) terms → i < length terms → q *ℤ pos g ≡ (get_or terms i d).1
    → IsSmall q → AreOver (u / g) (terms_over u terms) i numbers → AreOver (u / g) (terms_over u terms) (i + 1) (numbers ++ ((get_or terms i d).0, q) ∷ [])
lowered_more u g terms i d numbers q some fits divides all inside is small so_far =
    let t : ℕ × ℤ = get_or terms i d in
    are_over_more (u / g) (terms_over u terms) i (t.0, reduced t.1 u) numbers q (subst (λ n. i < n) (sym (length-map terms (λ x. (x.0, reduced x.1 u)))) inside)
    (sym (get_or-map (λ x. (x.0, reduced x.1 u)) terms i d (t.0, reduced t.1 u) inside)) (lowered_same t.1 q u g is divides some fits small (all i d inside)) small so_far

-- in place, so many numbers divided, and the others as they were
pub record ArePartlyLowered (u g : ℕ) (terms items : Numbers) (i : ℕ) : Type 0 where
  pub over : AreOver (u / g) (terms_over u terms) i (take i items)
  pub rest : drop i items ≡ drop i terms
  pub same_length : length items ≡ length terms

pub lowered_here : (u g : ℕ) (terms items : Numbers) (i : ℕ) (x : ℕ × ℤ) → i < length items → ArePartlyLowered u g terms items i → get_or items i x ≡ get_or terms i x
lowered_here u g terms items i x inside so_far =
    let inside' : i < length terms = subst (λ n. i < n) so_far.same_length inside in
    let both : get_or items i x ∷ drop (i + 1) items ≡ get_or terms i x ∷ drop (i + 1) terms = sym (drop_more items i x inside) ∙ so_far.rest ∙ drop_more terms i x inside' in
    cc

pub lowered_place : (u g : ℕ) (terms items : Numbers) (i : ℕ) (x : ℕ × ℤ) (q : ℤ) → 0 < u → u < 2 ^ 31 → g ∣ u → All (λ t. IsSmall t.1) terms → i < length items → x ≡ get_or items i x → q *ℤ pos g ≡ x.1
    → IsSmall q → ArePartlyLowered u g terms items i → ArePartlyLowered u g terms (set items i (x.0, q)) (i + 1)
lowered_place u g terms items i x q some fits divides all inside is product small so_far =
    let inside' : i < length terms = subst (λ n. i < n) so_far.same_length inside in
    let both : get_or items i x ∷ drop (i + 1) items ≡ get_or terms i x ∷ drop (i + 1) terms = sym (drop_more items i x inside) ∙ so_far.rest ∙ drop_more terms i x inside' in
    let after : drop (i + 1) items ≡ drop (i + 1) terms = cc in
    let here : x ≡ get_or terms i x = is ∙ lowered_here u g terms items i x inside so_far in
    record {
      over =
          subst (λ l. AreOver (u / g) (terms_over u terms) (i + 1) l) (ap (λ (t : ℕ × ℤ). take i items ++ (t.0, q) ∷ []) (sym here) ∙ sym (take_more_set items i (x.0, q) inside))
          (lowered_more u g terms i x (take i items) q some fits divides all inside' (product ∙ ap (λ (t : ℕ × ℤ). t.1) here) small so_far.over);
      rest = drop-set-lt (i + 1) items i (x.0, q) (omega arith) ∙ after;
      same_length = length-set items i (x.0, q) ∙ so_far.same_length;
    }

pub lowered_all : (u g : ℕ) (terms items : Numbers) (i : ℕ) → length items ≤ i → ArePartlyLowered u g terms items i → AreOver (u / g) (terms_over u terms) i items
lowered_all u g terms items i past so_far = subst (λ l. AreOver (u / g) (terms_over u terms) i l) (take_all i items past) so_far.over

-- a line of one position
pub lone_short : (p : ℕ) (z : ℤ) (u : ℕ) → p < 2 ^ 64 - 1 → 0 < u → u < 2 ^ 31 → IsSmall z → z ≢ pos 0 → IsLine (terms_over u ((p, z) ∷ []))
lone_short p z u fits some under_fits small not = record {
  ascends = (omega arith, fits, tt);
  numbers = All-cons HasNumber (p, reduced z u) [] (reduced_number p z u some (omega arith) (omega arith) not) (All-nil HasNumber);
}

-- its sum with a factor times another line
pub lone_told : (p : ℕ) (z k : ℤ) (lu ru u : ℕ) (m r : ℤ) (right written : Numbers) (now : Terms) → p < 2 ^ 64 - 1 → IsSmall z → z ≢ pos 0 → AreScales lu k ru m r u → IsShortSum ((p, z) ∷ []) right m r u written
    → IsLine (terms_over ru right) → terms_over ru right ≡ now → IsShort u written × IsCombination ((p, reduced z lu) ∷ []) (reduced k lu) now (terms_over u written)
lone_told p z k lu ru u m r right written now fits small not scales sum line is =
    let told = sum lu k ru scales (lone_short p z lu fits scales.left_some scales.left_fits small not) line in
    (told.0, subst (λ l. IsCombination ((p, reduced z lu) ∷ []) (reduced k lu) l (terms_over u written)) is told.1)

-- a denominator over the magnitude of a number, with its sign
share_is_of : (share n : ℤ) (size d : ℕ) → size ≡ unsigned_abs n → n ≢ pos 0 → IsSmall n → 0 < d → d < 2 ^ 31 → unsigned_abs share ≡ d → share *ℤ n ≡ pos (unsigned_abs n * d) → IsDivision one (reduced n d) (reduced share size)
share_is_of share n size d size_is not small some fits share_size product =
    let size_some : 0 < size = subst (λ k. 0 < k) (sym size_is) (positive n not) in
    let size_fits : size < 2 ^ 127 = omega arith in
    let x = reduced_alike share size size_some size_fits (omega arith) in
    let y = reduced_alike n d some (omega arith) (omega arith) in
    let whole : SameRatio one (times (whole_over share size) (whole_over n d)) =
    one_is (size * d) ∙ ap (λ k. pos (k * d)) size_is ∙ sym product ∙ sym (times_one (share *ℤ n)) in
    (next (alike one (times (whole_over share size) (whole_over n d)) one_some (times_positive (whole_over share size) (whole_over n d) size_some some) whole) (back (both_times x y))).same
  where
    positive : (z : ℤ) → z ≢ pos 0 → 0 < unsigned_abs z
    positive z h = grind (arith, ints)

    one_is : (k : ℕ) → pos 1 *ℤ pos k ≡ pos k
    one_is k = omega (arith, ints)

    times_one : (z : ℤ) → z *ℤ pos 1 ≡ z
    times_one z = omega (arith, ints)

-- the zero line of a line
pub zero_is : (p enters lu : ℕ) (numbers : Numbers) (now nil : Terms) (f : Ratio) (n share opposite : ℤ) (size : ℕ) → IsShort lu numbers → terms_over lu numbers ≡ now → whole_at enters numbers ≡ Some n
    → coefficient_at enters now ≡ Some f → size ≡ unsigned_abs n → n ≢ pos 0 → IsSmall n → unsigned_abs share ≡ lu → share *ℤ n ≡ pos (unsigned_abs n * lu) → opposite ≡ neg_ℤ share → IsLine nil
    → IsCombination ((p, reduced share size) ∷ []) (reduced opposite size) now nil → IsZeroLine p now f nil
zero_is p enters lu numbers now nil f n share opposite size short is whole named size_is not small share_size product opposite_is line sum =
    let both : Some (reduced n lu) ≡ Some f = number_is enters lu numbers now (Some n) is (sym whole) ∙ named in
    let same : reduced n lu ≡ f = cc in
    let size_some : 0 < size = subst (λ k. 0 < k) (sym size_is) (positive n not) in
    let size_fits : size < 2 ^ 127 = omega arith in
    let share_fits : FitsPart share = let h = short.fits in omega arith in
    let negated_is : reduced opposite size ≡ negated (reduced share size) = ap (λ z. reduced z size) opposite_is ∙ reduced_negated share size size_some size_fits share_fits in
    record {
      line = line;
      share = reduced share size;
      share_lowest = reduced_lowest share size size_some size_fits share_fits;
      is_share = subst (λ r. IsDivision one r (reduced share size)) same (share_is_of share n size lu size_is not small short.some short.fits share_size product);
      combination = subst (λ r. IsCombination ((p, reduced share size) ∷ []) r now nil) negated_is sum;
    }
  where
    positive : (z : ℤ) → z ≢ pos 0 → 0 < unsigned_abs z
    positive z h = grind (arith, ints)

-- a whole number 1
one_reduced : reduced (pos 1) 1 ≡ one
one_reduced = sym (reduced_only one (pos 1) 1 (omega arith) (lit< tt) (lit< tt) one_lowest refl)

-- the line that enters
pub entering_is : (E : Type 0) (o : Result (Option Terms) E) (p : ℕ) (line : Terms) → IfOk o (λ x. IfSome x (λ l. IsLine l)) → IfOk o (λ x. IfSome x (IsCombination ((p, reduced (pos 1) 1) ∷ []) (reduced (pos 1) 1) line))
    → IfOk o (λ x. IfSome x (IsEntering p line))
entering_is E (Err e) p line lines sums = tt
entering_is E (Ok None) p line lines sums = tt
entering_is E (Ok (Some l)) p line lines sums =
    record { line = lines; combination = subst (λ r. IsCombination ((p, r) ∷ []) r line l) one_reduced sums }

-- the other sign of a small number
pub opposite_small : (s : ℤ) (d : ℕ) → unsigned_abs s ≡ d → d < 2 ^ 31 → FitsSigned w64 (pos 0 -ℤ s)
opposite_small s d is fits = fits_signed_from_abs w64 (pos 0 -ℤ s) (omega (arith, ints))

pub opposite_is : (s : ℤ) → pos 0 -ℤ s ≡ neg_ℤ s
opposite_is s = omega (arith, ints)

-- what holds of a value that there is
pub held : (P : Terms → Type 0) (o : Option Terms) (l : Terms) → o ≡ Some l → IfSome o P → P l
held P o l is holds = subst (λ x. IfSome x P) is holds

-- a line of one position with the number 1
pub lone_one : (p : ℕ) (numbers : Numbers) → p < 2 ^ 64 - 1 → numbers ≡ (p, pos 1) ∷ [] → IsShort 1 numbers × (terms_over 1 numbers ≡ (p, one) ∷ [])
lone_one p numbers fits is =
    subst (λ l. IsShort 1 l × (terms_over 1 l ≡ (p, one) ∷ [])) (sym is) (
      record {
        some = lit< tt;
        fits = lit< tt;
        small = All-cons (λ t. IsSmall t.1) (p, pos 1) [] (lit< tt) (All-nil (λ t. IsSmall t.1));
        line = lone_short p (pos 1) 1 fits (lit< tt) (lit< tt) (lit< tt) (λ e. omega (arith, ints));
      },
      ap (λ r. (p, r) ∷ []) one_reduced,
    )
