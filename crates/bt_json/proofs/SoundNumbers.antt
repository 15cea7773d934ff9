-- A number that was read is in the grammar.
use Rattle.std.proofs.Common.{◌≡◌, ℕ, ◌+◌, ◌-◌, ◌*◌, ◌<◌, ◌≤◌, Bool, true, false, cond, List, [], ◌∷◌, ◌++◌, length, refl, ap, ap₂, ◌∙◌, sym, subst, arith, append_assoc, ◌==◌, ◌≢◌, ◌⊎◌, inl, inr}
use Rattle.std.specs.Prelude.{min}
use Rattle.std.specs.List.{AllByRecursion}
use Rattle.std.specs.Int.Digits.{number_from_digits}
use Rattle.std.proofs.lemmas.Int.Digits.{number_push}
use Rattle.std.proofs.lemmas.List.{append-nil, map_push, length-append}
use Rattle.std.proofs.lemmas.Bool.{cases_eq, eqb-true}
use Rattle.std.proofs.lemmas.Bool.Decides.{nat_tests}
use Rattle.bt_json.specs.Grammar.{Texts, ◌▸◌, Byte, Digits, Sign, Whole, Fraction, ExponentSign, Letter, Exponent, IsNumber}
use Rattle.bt_json.specs.Answers.{is_number_byte}
use Rattle.bt_json.specs.inner.Bytes.{mark_of}
use Rattle.bt_json.specs.inner.Reading.{Numeral, numeral, numeral_value, with_whole, with_fraction, with_power, first_phase, InNumber, goes_on, ends, wrong, step_number, may_end}
use Rattle.bt_json.specs.declared.kind.Mark.{Mark}
use Rattle.bt_json.specs.declared.kind.Mark.TheVariants.{Figure, Point, LetterE, PlusSign, MinusSign, Over}
use Rattle.bt_json.specs.declared.kind.Phase.{Phase}
use Rattle.bt_json.specs.declared.kind.Phase.TheVariants.{BeforeWhole, AfterZero, InWhole, AfterPoint, InFraction, AfterLetter, AfterSign, InPower}
use Rattle.bt_json.proofs.Joins.{join, extend, behind_both, assoc, second_as, and_nothing}
use Rattle.bt_json.specs.declared.limits.TheConstants.{MOST_EXPONENT}

-- ---- what a byte is, from its mark

abbrev pub IsMark : Mark → ℕ → Type 0
IsMark (Figure d) b = (d < 10) × (b ≡ d + 48)
IsMark Point b = b ≡ 46
IsMark LetterE b = (b ≡ 101) ⊎ (b ≡ 69)
IsMark PlusSign b = b ≡ 43
IsMark MinusSign b = b ≡ 45
IsMark Over b = is_number_byte b ≡ false

pub mark_is : (b : ℕ) → IsMark (mark_of b) b
unfolding mark_of
mark_is b = by (mark_of b) refl
  where
    figure : (d : ℕ) → mark_of b ≡ Figure d → (d < 10) × (b ≡ d + 48)
    figure d e = (grind (arith, nat_tests), grind (arith, nat_tests))

    point : mark_of b ≡ Point → b ≡ 46
    point e = grind (arith, nat_tests)

    letter : mark_of b ≡ LetterE → (b ≡ 101) ⊎ (b ≡ 69)
    letter e = elim (cases_eq b 101) [ inl same ↦ inl same | inr other ↦ inr (grind (arith, nat_tests)) ]

    plus : mark_of b ≡ PlusSign → b ≡ 43
    plus e = grind (arith, nat_tests)

    minus : mark_of b ≡ MinusSign → b ≡ 45
    minus e = grind (arith, nat_tests)

    past : mark_of b ≡ Over → is_number_byte b ≡ false
    past e = grind (arith, nat_tests)

    by : (m : Mark) → mark_of b ≡ m → IsMark m b
    by (Figure d) e = figure d e
    by Point e = point e
    by LetterE e = letter e
    by PlusSign e = plus e
    by MinusSign e = minus e
    by Over e = past e

-- ---- numbers as far as they are written

abbrev WholePart : Bool → List ℕ → Texts
WholePart negative ds = Sign negative ▸ Whole ds

abbrev with_fractions : Bool → List ℕ → List ℕ → Numeral
with_fractions negative ds fs = record { negative = negative; digits = ds ++ fs; places = length fs; below = false; power = 0 }

pub record InWholePart (n : Numeral) (t : List ℕ) : Type 0 where
  pub negative : Bool
  pub first : ℕ
  pub digits : List ℕ
  pub is : n ≡ numeral negative (first ∷ digits)
  pub no_zero : first ≢ 0
  pub spelled : WholePart negative (first ∷ digits) t

pub record WithWhole (After : Texts) (n : Numeral) (t : List ℕ) : Type 0 where
  pub negative : Bool
  pub whole : List ℕ
  pub is : n ≡ numeral negative whole
  pub spelled : (WholePart negative whole ▸ After) t

pub record WithFraction (n : Numeral) (t : List ℕ) : Type 0 where
  pub negative : Bool
  pub whole : List ℕ
  pub first : ℕ
  pub fraction : List ℕ
  pub is : n ≡ with_fractions negative whole (first ∷ fraction)
  pub spelled : (WholePart negative whole ▸ (Byte 46 ▸ Digits (first ∷ fraction))) t

pub record WithLetter (n : Numeral) (t : List ℕ) : Type 0 where
  pub negative : Bool
  pub whole : List ℕ
  pub fraction : List ℕ
  pub is : n ≡ with_fractions negative whole fraction
  pub spelled : (WholePart negative whole ▸ (Fraction fraction ▸ Letter)) t

pub record WithSign (n : Numeral) (t : List ℕ) : Type 0 where
  pub negative : Bool
  pub whole : List ℕ
  pub fraction : List ℕ
  pub below : Bool
  pub is : n ≡ record (with_fractions negative whole fraction) { below = below }
  pub spelled : (WholePart negative whole ▸ (Fraction fraction ▸ (Letter ▸ ExponentSign below))) t

pub record WithPower (n : Numeral) (t : List ℕ) : Type 0 where
  pub negative : Bool
  pub whole : List ℕ
  pub fraction : List ℕ
  pub below : Bool
  pub first : ℕ
  pub power : List ℕ
  pub is : n ≡ record (with_fractions negative whole fraction) { below = below; power = min (number_from_digits 10 (first ∷ power)) MOST_EXPONENT }
  pub spelled : (WholePart negative whole ▸ (Fraction fraction ▸ (Letter ▸ (ExponentSign below ▸ Digits (first ∷ power))))) t

abbrev pub Written : Phase → Numeral → Texts
Written BeforeWhole n t = (n ≡ numeral true []) × (t ≡ 45 ∷ [])
Written AfterZero n t = (negative : Bool) × (n ≡ numeral negative (0 ∷ [])) × WholePart negative (0 ∷ []) t
Written InWhole n t = InWholePart n t
Written AfterPoint n t = WithWhole (Byte 46) n t
Written InFraction n t = WithFraction n t
Written AfterLetter n t = WithLetter n t
Written AfterSign n t = WithSign n t
Written InPower n t = WithPower n t

-- ---- one digit more

all_push : (ds : List ℕ) (d : ℕ) → AllByRecursion (λ x. x < 10) ds → d < 10 → AllByRecursion (λ x. x < 10) (ds ++ d ∷ [])
all_push [] d h lt = (lt, tt)
all_push (e ∷ ds) d h lt = (h.0, all_push ds d h.1 lt)

digits_push : (ds : List ℕ) (d : ℕ) (t : List ℕ) → d < 10 → Digits ds t → Digits (ds ++ d ∷ []) (t ++ (d + 48) ∷ [])
digits_push ds d t lt h = (all_push ds d h.0 lt, ap (λ (x : List ℕ). x ++ (d + 48) ∷ []) h.1 ∙ sym (map_push (λ x. x + 48) ds d))

one_digit : (d : ℕ) → d < 10 → Digits (d ∷ []) ((d + 48) ∷ [])
one_digit d lt = ((lt, tt), refl)

whole_push : (d : ℕ) (ds : List ℕ) (e : ℕ) (t : List ℕ) → d ≢ 0 → e < 10 → Whole (d ∷ ds) t → Whole (d ∷ (ds ++ e ∷ [])) (t ++ (e + 48) ∷ [])
whole_push d [] e t ne lt w = (ne, digits_push (d ∷ []) e t lt w)
whole_push d (c ∷ ds) e t ne lt w = (ne, digits_push (d ∷ c ∷ ds) e t lt w.1)

power_push : (ds : List ℕ) (d : ℕ) → min (min (number_from_digits 10 ds) MOST_EXPONENT * 10 + d) MOST_EXPONENT ≡ min (number_from_digits 10 (ds ++ d ∷ [])) MOST_EXPONENT
power_push ds d = rw (number_push 10 ds d) (omega arith)

-- ---- ends

no_fraction : (negative : Bool) (ds t : List ℕ) → WholePart negative ds t → (Sign negative ▸ (Whole ds ▸ (Fraction [] ▸ Exponent false []))) t
no_fraction negative ds t w = second_as t (λ u b. and_nothing u (and_nothing [] (refl, refl) refl) b) w

whole_number : (negative : Bool) (ds t : List ℕ) → WholePart negative ds t → IsNumber (numeral_value (numeral negative ds)) t
whole_number negative ds t w = record { whole = ds; fraction = []; below = false; power = []; spelled = no_fraction negative ds t w; digits = sym (append-nil ds); exponent = refl }

fraction_number : (negative : Bool) (ds : List ℕ) (f : ℕ) (fs t : List ℕ) → (WholePart negative ds ▸ (Byte 46 ▸ Digits (f ∷ fs))) t → IsNumber (numeral_value (with_fractions negative ds (f ∷ fs))) t
fraction_number negative ds f fs t w = record { whole = ds; fraction = f ∷ fs; below = false; power = []; spelled = second_as t (λ u. second_as u (λ v b. and_nothing v (refl, refl) b)) (assoc t w); digits = refl; exponent = refl }

power_number : (negative : Bool) (ds fs : List ℕ) (below : Bool) (e : ℕ) (es t : List ℕ) → (WholePart negative ds ▸ (Fraction fs ▸ (Letter ▸ (ExponentSign below ▸ Digits (e ∷ es))))) t
    → IsNumber (numeral_value (record (with_fractions negative ds fs) { below = below; power = min (number_from_digits 10 (e ∷ es)) MOST_EXPONENT })) t
power_number negative ds fs below e es t w = record { whole = ds; fraction = fs; below = below; power = e ∷ es; spelled = assoc t w; digits = refl; exponent = refl }

-- a number that may end there is whole
pub number_whole : (p : Phase) (n : Numeral) (t : List ℕ) → may_end p ≡ true → Written p n t → IsNumber (numeral_value n) t
number_whole BeforeWhole n t e w = absurd cc
number_whole AfterPoint n t e w = absurd cc
number_whole AfterLetter n t e w = absurd cc
number_whole AfterSign n t e w = absurd cc
number_whole AfterZero n t e w = subst (λ m. IsNumber (numeral_value m) t) (sym w.1) (whole_number w.0 (0 ∷ []) t w.2)
number_whole InWhole n t e w = subst (λ m. IsNumber (numeral_value m) t) (sym w.is) (whole_number w.negative (w.first ∷ w.digits) t w.spelled)
number_whole InFraction n t e w = subst (λ m. IsNumber (numeral_value m) t) (sym w.is) (fraction_number w.negative w.whole w.first w.fraction t w.spelled)
number_whole InPower n t e w = subst (λ m. IsNumber (numeral_value m) t) (sym w.is) (power_number w.negative w.whole w.fraction w.below w.first w.power t w.spelled)

-- ---- steps

abbrev pub Onwards : ℕ → List ℕ → InNumber → Type 0
Onwards b t (goes_on p m) = Written p m (t ++ b ∷ [])
Onwards b t (ends m) = IsNumber (numeral_value m) t × (is_number_byte b ≡ false)
Onwards b t wrong = Unit {0}

first_digit : (negative : Bool) (sign t : List ℕ) (d b : ℕ) (n : Numeral) → d < 10 → b ≡ d + 48 → n ≡ numeral negative (d ∷ []) → Sign negative sign → t ≡ sign ++ b ∷ [] → Written (first_phase d) n t
first_digit negative sign t d b n lt e is s w = by (d == 0) refl
  where
    spelled : WholePart negative (d ∷ []) t
    spelled = subst (WholePart negative (d ∷ [])) (sym (w ∙ ap (λ x. sign ++ x ∷ []) e)) (join sign ((d + 48) ∷ []) s (one_digit d lt))

    by : (z : Bool) → (d == 0) ≡ z → Written (cond z AfterZero InWhole) n t
    by true q = let zero_d : d ≡ 0 = eqb-true d 0 q in (negative, is ∙ ap (λ x. numeral negative (x ∷ [])) zero_d, subst (λ x. WholePart negative (x ∷ []) t) zero_d spelled)
    by false q = record { negative = negative; first = d; digits = []; is = is; no_zero = λ z. (let f : (d == 0) ≡ true = ap (λ x. x == 0) z in cc); spelled = spelled }

point_behind : (negative : Bool) (ds : List ℕ) (n : Numeral) (t : List ℕ) (b : ℕ) → b ≡ 46 → n ≡ numeral negative ds → WholePart negative ds t → WithWhole (Byte 46) n (t ++ b ∷ [])
point_behind negative ds n t b e is w = record { negative = negative; whole = ds; is = is; spelled = join t (b ∷ []) w (ap (λ x. x ∷ []) e) }

letter_is : (b : ℕ) → (b ≡ 101) ⊎ (b ≡ 69) → Letter (b ∷ [])
letter_is b (inl e) = inl (ap (λ x. x ∷ []) e)
letter_is b (inr e) = inr (ap (λ x. x ∷ []) e)

letter_behind : (negative : Bool) (ds : List ℕ) (n : Numeral) (t : List ℕ) (b : ℕ) → (b ≡ 101) ⊎ (b ≡ 69) → n ≡ numeral negative ds → WholePart negative ds t → WithLetter n (t ++ b ∷ [])
letter_behind negative ds n t b e is w = record { negative = negative; whole = ds; fraction = []; is = is ∙ ap (numeral negative) (sym (append-nil ds)); spelled = join t (b ∷ []) w (join [] (b ∷ []) refl (letter_is b e)) }

first_power : (n : Numeral) (negative : Bool) (whole fraction : List ℕ) (below : Bool) (t : List ℕ) (d b : ℕ) → d < 10 → b ≡ d + 48 → n ≡ record (with_fractions negative whole fraction) { below = below }
    → (WholePart negative whole ▸ (Fraction fraction ▸ (Letter ▸ ExponentSign below))) t → WithPower (with_power n d) (t ++ b ∷ [])
first_power n negative whole fraction below t d b lt e is w = record {
  negative = negative;
  whole = whole;
  fraction = fraction;
  below = below;
  first = d;
  power = [];
  is = ap (λ m. with_power m d) is;
  spelled = subst (λ x. (WholePart negative whole ▸ (Fraction fraction ▸ (Letter ▸ (ExponentSign below ▸ Digits (d ∷ []))))) (t ++ x ∷ [])) (sym e)
      (extend ((d + 48) ∷ []) t (λ u. extend ((d + 48) ∷ []) u (λ u. behind_both ((d + 48) ∷ []) u (one_digit d lt))) w);
}

abbrev signed_as : Bool → Numeral → Numeral
signed_as below n = record n { below = below }

-- a byte where the whole part is due
begins_whole : (n : Numeral) (t : List ℕ) (b : ℕ) (m : Mark) → IsMark m b → Written BeforeWhole n t → Onwards b t (step_number BeforeWhole n m)
begins_whole n t b (Figure d) e w = first_digit true (45 ∷ []) (t ++ b ∷ []) d b (with_whole n d) e.0 e.1 (ap (λ x. with_whole x d) w.0) refl (ap (λ (x : List ℕ). x ++ b ∷ []) w.1)
begins_whole n t b m e w = tt

-- a byte behind a zero in front
behind_zero : (n : Numeral) (t : List ℕ) (b : ℕ) (m : Mark) → IsMark m b → Written AfterZero n t → Onwards b t (step_number AfterZero n m)
behind_zero n t b Point e w = point_behind w.0 (0 ∷ []) n t b e w.1 w.2
behind_zero n t b LetterE e w = letter_behind w.0 (0 ∷ []) n t b e w.1 w.2
behind_zero n t b Over e w = (number_whole AfterZero n t refl w, e)
behind_zero n t b m e w = tt

-- a byte in the whole part
in_whole : (n : Numeral) (t : List ℕ) (b : ℕ) (m : Mark) → IsMark m b → Written InWhole n t → Onwards b t (step_number InWhole n m)
in_whole n t b (Figure d) e w = record {
  negative = w.negative;
  first = w.first;
  digits = w.digits ++ d ∷ [];
  is = ap (λ x. with_whole x d) w.is;
  no_zero = w.no_zero;
  spelled = subst (λ x. WholePart w.negative (w.first ∷ (w.digits ++ d ∷ [])) (t ++ x ∷ [])) (sym e.1) (extend ((d + 48) ∷ []) t (λ u. whole_push w.first w.digits d u w.no_zero e.0) w.spelled);
}
in_whole n t b Point e w = point_behind w.negative (w.first ∷ w.digits) n t b e w.is w.spelled
in_whole n t b LetterE e w = letter_behind w.negative (w.first ∷ w.digits) n t b e w.is w.spelled
in_whole n t b Over e w = (number_whole InWhole n t refl w, e)
in_whole n t b m e w = tt

-- a byte behind the point
behind_point : (n : Numeral) (t : List ℕ) (b : ℕ) (m : Mark) → IsMark m b → Written AfterPoint n t → Onwards b t (step_number AfterPoint n m)
behind_point n t b (Figure d) e w = record {
  negative = w.negative;
  whole = w.whole;
  first = d;
  fraction = [];
  is = ap (λ x. with_fraction x d) w.is;
  spelled = subst (λ x. (WholePart w.negative w.whole ▸ (Byte 46 ▸ Digits (d ∷ []))) (t ++ x ∷ [])) (sym e.1) (behind_both ((d + 48) ∷ []) t (one_digit d e.0) w.spelled);
}
behind_point n t b m e w = tt

-- a byte in the fraction
in_fraction : (n : Numeral) (t : List ℕ) (b : ℕ) (m : Mark) → IsMark m b → Written InFraction n t → Onwards b t (step_number InFraction n m)
in_fraction n t b (Figure d) e w = record {
  negative = w.negative;
  whole = w.whole;
  first = w.first;
  fraction = w.fraction ++ d ∷ [];
  is = ap (λ x. with_fraction x d) w.is ∙ ap₂ (λ x y. record { negative = w.negative; digits = x; places = y; below = false; power = 0 }) (append_assoc w.whole (w.first ∷ w.fraction) (d ∷ [])) (let q : length (w.first ∷ w.fraction) + 1 ≡ length (w.first ∷ (w.fraction ++ d ∷ [])) = omega (arith, length-append w.fraction (d ∷ [])) in q);
  spelled = subst (λ x. (WholePart w.negative w.whole ▸ (Byte 46 ▸ Digits (w.first ∷ (w.fraction ++ d ∷ [])))) (t ++ x ∷ [])) (sym e.1) (extend ((d + 48) ∷ []) t (λ u. extend ((d + 48) ∷ []) u (λ u. digits_push (w.first ∷ w.fraction) d u e.0)) w.spelled);
}
in_fraction n t b LetterE e w = record {
  negative = w.negative;
  whole = w.whole;
  fraction = w.first ∷ w.fraction;
  is = w.is;
  spelled = extend (b ∷ []) t (λ u f. join u (b ∷ []) f (letter_is b e)) w.spelled;
}
in_fraction n t b Over e w = (number_whole InFraction n t refl w, e)
in_fraction n t b m e w = tt

-- a byte behind the letter
behind_letter : (n : Numeral) (t : List ℕ) (b : ℕ) (m : Mark) → IsMark m b → Written AfterLetter n t → Onwards b t (step_number AfterLetter n m)
behind_letter n t b (Figure d) e w = first_power n w.negative w.whole w.fraction false t d b e.0 e.1 w.is (second_as t (λ u. second_as u (λ u l. and_nothing u (inl refl) l)) w.spelled)
behind_letter n t b PlusSign e w = record {
  negative = w.negative;
  whole = w.whole;
  fraction = w.fraction;
  below = false;
  is = ap (signed_as false) w.is;
  spelled = extend (b ∷ []) t (λ u. behind_both (b ∷ []) u (inr (ap (λ x. x ∷ []) e))) w.spelled;
}
behind_letter n t b MinusSign e w = record {
  negative = w.negative;
  whole = w.whole;
  fraction = w.fraction;
  below = true;
  is = ap (signed_as true) w.is;
  spelled = extend (b ∷ []) t (λ u. behind_both (b ∷ []) u (ap (λ x. x ∷ []) e)) w.spelled;
}
behind_letter n t b m e w = tt

-- a byte behind the sign of the exponent
behind_sign : (n : Numeral) (t : List ℕ) (b : ℕ) (m : Mark) → IsMark m b → Written AfterSign n t → Onwards b t (step_number AfterSign n m)
behind_sign n t b (Figure d) e w = first_power n w.negative w.whole w.fraction w.below t d b e.0 e.1 w.is w.spelled
behind_sign n t b m e w = tt

-- a byte in the exponent
in_power : (n : Numeral) (t : List ℕ) (b : ℕ) (m : Mark) → IsMark m b → Written InPower n t → Onwards b t (step_number InPower n m)
in_power n t b (Figure d) e w = record {
  negative = w.negative;
  whole = w.whole;
  fraction = w.fraction;
  below = w.below;
  first = w.first;
  power = w.power ++ d ∷ [];
  is = ap (λ x. with_power x d) w.is ∙ ap (λ y. record (with_fractions w.negative w.whole w.fraction) { below = w.below; power = y }) (power_push (w.first ∷ w.power) d);
  spelled = subst (λ x. (WholePart w.negative w.whole ▸ (Fraction w.fraction ▸ (Letter ▸ (ExponentSign w.below ▸ Digits (w.first ∷ (w.power ++ d ∷ [])))))) (t ++ x ∷ [])) (sym e.1)
      (extend ((d + 48) ∷ []) t (λ u. extend ((d + 48) ∷ []) u (λ u. extend ((d + 48) ∷ []) u (λ u. extend ((d + 48) ∷ []) u (λ u. digits_push (w.first ∷ w.power) d u e.0)))) w.spelled);
}
in_power n t b Over e w = (number_whole InPower n t refl w, e)
in_power n t b m e w = tt

-- any byte
pub written_step : (p : Phase) (n : Numeral) (t : List ℕ) (b : ℕ) (m : Mark) → IsMark m b → Written p n t → Onwards b t (step_number p n m)
written_step BeforeWhole n t b m e w = begins_whole n t b m e w
written_step AfterZero n t b m e w = behind_zero n t b m e w
written_step InWhole n t b m e w = in_whole n t b m e w
written_step AfterPoint n t b m e w = behind_point n t b m e w
written_step InFraction n t b m e w = in_fraction n t b m e w
written_step AfterLetter n t b m e w = behind_letter n t b m e w
written_step AfterSign n t b m e w = behind_sign n t b m e w
written_step InPower n t b m e w = in_power n t b m e w

-- the first byte of a number
pub minus_first : (b : ℕ) → b ≡ 45 → Written BeforeWhole (numeral true []) (b ∷ [])
minus_first b e = (refl, ap (λ x. x ∷ []) e)

pub digit_first : (b : ℕ) → 48 ≤ b → b ≤ 57 → Written (first_phase (b - 48)) (numeral false ((b - 48) ∷ [])) (b ∷ [])
digit_first b l h = first_digit false [] (b ∷ []) (b - 48) b (numeral false ((b - 48) ∷ [])) (omega arith) (omega arith) refl refl refl
