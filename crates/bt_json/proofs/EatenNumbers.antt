-- Reading over a number that the grammar writes.
use Rattle.std.proofs.Common.{◌≡◌, ℕ, suc, ◌+◌, ◌-◌, ◌*◌, ◌<◌, Bool, true, false, cond, List, [], ◌∷◌, ◌++◌, map, length, refl, ap, ap₂, ◌∙◌, sym, subst, arith, append_assoc, ◌==◌, inl, inr}
use Rattle.std.specs.Prelude.{min}
use Rattle.std.specs.List.{AllByRecursion}
use Rattle.std.specs.Int.Digits.{number_from_digits, number_from_digits_after}
use Rattle.std.proofs.lemmas.List.{append-nil}
use Rattle.std.proofs.lemmas.Bool.{false_from_ne_true, eqb-true}
use Rattle.std.proofs.lemmas.Bool.Decides.{nat_tests}
use Rattle.bt_json.specs.Json.{Number, number}
use Rattle.bt_json.specs.Grammar.{Joined, Sign, Whole, Fraction, ExponentSign, Letter, Exponent, IsNumber}
use Rattle.bt_json.specs.Answers.{is_number_byte, EndsBefore}
use Rattle.bt_json.specs.inner.Bytes.{kind_of, mark_of}
use Rattle.bt_json.specs.inner.Reading.{State, go, step, Frame, deliver, due, in_number, Numeral, numeral, numeral_value, with_whole, with_fraction, with_power, first_phase, goes_on, step_due, step_number, step_in_number, step_past, may_end, step_over}
use Rattle.bt_json.specs.declared.kind.Kind.TheVariants.{Minus, Digit}
use Rattle.bt_json.specs.declared.kind.Mark.{Mark}
use Rattle.bt_json.specs.declared.kind.Mark.TheVariants.{Figure, Point, LetterE, PlusSign, MinusSign, Over}
use Rattle.bt_json.specs.declared.kind.Phase.{Phase}
use Rattle.bt_json.specs.declared.kind.Phase.TheVariants.{BeforeWhole, AfterZero, InWhole, AfterPoint, InFraction, AfterLetter, AfterSign, InPower}
use Rattle.bt_json.proofs.Eating.{after, settle_number, walk, Eats, eats_byte, eats_then, eats_none, eats_same, eats_next, Anything}
use Rattle.bt_json.specs.declared.limits.TheConstants.{MOST_EXPONENT}

-- ---- what the bytes of a number are

pub mark-digit : (d : ℕ) → d < 10 → mark_of (d + 48) ≡ Figure d
unfolding mark_of
mark-digit d lt = let e : d + 48 - 48 ≡ d = omega arith in grind (arith, nat_tests)

kind-digit : (d : ℕ) → d < 10 → kind_of (d + 48) ≡ Digit
unfolding kind_of
kind-digit d lt = grind (arith, nat_tests)

kind-minus : kind_of 45 ≡ Minus
unfolding kind_of
kind-minus = refl

mark-point : mark_of 46 ≡ Point
unfolding mark_of
mark-point = refl

mark-e : mark_of 101 ≡ LetterE
unfolding mark_of
mark-e = refl

mark-E : mark_of 69 ≡ LetterE
unfolding mark_of
mark-E = refl

mark-plus : mark_of 43 ≡ PlusSign
unfolding mark_of
mark-plus = refl

mark-minus : mark_of 45 ≡ MinusSign
unfolding mark_of
mark-minus = refl

pub mark-over : (b : ℕ) → is_number_byte b ≡ false → mark_of b ≡ Over
unfolding mark_of
mark-over b e = grind (arith, nat_tests)

-- one byte of a number
pub eats_mark : (strict : Bool) (phase p : Phase) (n m : Numeral) (k : List Frame) (b : ℕ) (mark : Mark) → mark_of b ≡ mark → step_number phase n mark ≡ goes_on p m → Eats strict (in_number phase n k) (b ∷ []) (λ x. go (in_number p m k)) Anything
unfolding step
eats_mark strict phase p n m k b mark e f = eats_byte strict (in_number phase n k) b (λ x. go (in_number p m k)) (λ at. ap (λ i. step_in_number at k (kind_of b) i) (ap (step_number phase n) e ∙ f))

-- ---- digits

abbrev fold_digits : (Numeral → ℕ → Numeral) → Numeral → List ℕ → Numeral
fold_digits add n [] = n
fold_digits add n (d ∷ ds) = fold_digits add (add n d) ds

-- digits that all go on alike
eats_digits : (strict : Bool) (phase : Phase) (add : Numeral → ℕ → Numeral) (k : List Frame) → ((n : Numeral) (d : ℕ) → step_number phase n (Figure d) ≡ goes_on phase (add n d))
    → (ds : List ℕ) (n : Numeral) → AllByRecursion (λ d. d < 10) ds → (end : Numeral) → fold_digits add n ds ≡ end → Eats strict (in_number phase n k) (map (λ d. d + 48) ds) (λ x. go (in_number phase end k)) Anything
eats_digits strict phase add k goes [] n all end e = subst (λ m. Eats strict (in_number phase n k) [] (λ x. go (in_number phase m k)) Anything) e (eats_none strict (in_number phase n k))
eats_digits strict phase add k goes (d ∷ ds) n all end e =
    eats_then strict (in_number phase n k) (in_number phase (add n d) k) ((d + 48) ∷ []) (map (λ d. d + 48) ds) (λ x. go (in_number phase end k)) Anything
    (eats_mark strict phase phase n (add n d) k (d + 48) (Figure d) (mark-digit d all.0) (goes n d))
    (eats_digits strict phase add k goes ds (add n d) all.1 end e)

-- a first digit after which they go on alike
eats_first : (strict : Bool) (phase p : Phase) (add : Numeral → ℕ → Numeral) (k : List Frame) → ((n : Numeral) (d : ℕ) → step_number phase n (Figure d) ≡ goes_on p (add n d)) → ((n : Numeral) (d : ℕ) → step_number p n (Figure d) ≡ goes_on p (add n d))
    → (d : ℕ) (ds : List ℕ) (n : Numeral) → AllByRecursion (λ d. d < 10) (d ∷ ds) → Eats strict (in_number phase n k) (map (λ d. d + 48) (d ∷ ds)) (λ x. go (in_number p (fold_digits add n (d ∷ ds)) k)) Anything
eats_first strict phase p add k first more d ds n all =
    eats_then strict (in_number phase n k) (in_number p (add n d) k) ((d + 48) ∷ []) (map (λ d. d + 48) ds) (λ x. go (in_number p (fold_digits add n (d ∷ ds)) k)) Anything
    (eats_mark strict phase p n (add n d) k (d + 48) (Figure d) (mark-digit d all.0) (first n d))
    (eats_digits strict p add k more ds (add n d) all.1 (fold_digits add n (d ∷ ds)) refl)

-- ---- what the digits leave

whole_is : (ds : List ℕ) (n : Numeral) → fold_digits with_whole n ds ≡ record n { digits = n.digits ++ ds }
whole_is [] n = ap (λ x. record n { digits = x }) (sym (append-nil n.digits))
whole_is (d ∷ ds) n = whole_is ds (with_whole n d) ∙ ap (λ x. record n { digits = x }) (append_assoc n.digits (d ∷ []) ds)

fraction_is : (ds : List ℕ) (n : Numeral) → fold_digits with_fraction n ds ≡ record n { digits = n.digits ++ ds; places = n.places + length ds }
fraction_is [] n = ap₂ (λ x y. record n { digits = x; places = y }) (sym (append-nil n.digits)) (let e : n.places ≡ n.places + 0 = omega arith in e)
fraction_is (d ∷ ds) n = fraction_is ds (with_fraction n d) ∙ ap₂ (λ x y. record n { digits = x; places = y }) (append_assoc n.digits (d ∷ []) ds) (let e : n.places + 1 + length ds ≡ n.places + suc (length ds) = omega arith in e)

power_is : (ds : List ℕ) (n : Numeral) (m : ℕ) → n.power ≡ min m MOST_EXPONENT → fold_digits with_power n ds ≡ record n { power = min (number_from_digits_after 10 m ds) MOST_EXPONENT }
power_is [] n m e = ap (λ x. record n { power = x }) e
power_is (d ∷ ds) n m e =
    let step : min (n.power * 10 + d) MOST_EXPONENT ≡ min (m * 10 + d) MOST_EXPONENT = rw e (omega arith) in
    power_is ds (with_power n d) (m * 10 + d) step

-- ---- the parts of a number

pub record AfterWhole (p : Phase) : Type 0 where
  pub point : (n : Numeral) → step_number p n Point ≡ goes_on AfterPoint n
  pub letter : (n : Numeral) → step_number p n LetterE ≡ goes_on AfterLetter n
  pub may : may_end p ≡ true

pub record AfterFraction (p : Phase) : Type 0 where
  pub letter : (n : Numeral) → step_number p n LetterE ≡ goes_on AfterLetter n
  pub may : may_end p ≡ true

after_first : (b : Bool) → AfterWhole (cond b AfterZero InWhole)
after_first true = record { point = λ n. refl; letter = λ n. refl; may = refl }
after_first false = record { point = λ n. refl; letter = λ n. refl; may = refl }

-- the digits of a whole part behind its first one
eats_rest : (strict negative : Bool) (k : List Frame) (d : ℕ) (ds : List ℕ) (t : List ℕ) → Whole (d ∷ ds) t → Eats strict (in_number (first_phase d) (numeral negative (d ∷ [])) k) (map (λ x. x + 48) ds) (λ x. go (in_number (first_phase d) (numeral negative (d ∷ ds)) k)) Anything
eats_rest strict negative k d [] t w = eats_none strict (in_number (first_phase d) (numeral negative (d ∷ [])) k)
eats_rest strict negative k d (e ∷ ds) t w =
    let whole : (d == 0) ≡ false = false_from_ne_true _ (λ x. w.0 (eqb-true d 0 x)) in
    let phase : InWhole ≡ first_phase d = sym (ap (λ b. cond b AfterZero InWhole) whole) in
    subst (λ p. Eats strict (in_number p (numeral negative (d ∷ [])) k) (map (λ x. x + 48) (e ∷ ds)) (λ x. go (in_number p (numeral negative (d ∷ e ∷ ds)) k)) Anything) phase
    (eats_digits strict InWhole with_whole k (λ n x. refl) (e ∷ ds) (numeral negative (d ∷ [])) w.1.0.1 (numeral negative (d ∷ e ∷ ds)) (whole_is (e ∷ ds) (numeral negative (d ∷ []))))

whole_digits : (d : ℕ) (ds t : List ℕ) → Whole (d ∷ ds) t → (d < 10) × (t ≡ (d + 48) ∷ map (λ x. x + 48) ds)
whole_digits d [] t w = (w.0.0, w.1)
whole_digits d (e ∷ ds) t w = (w.1.0.0, w.1.1)

-- the sign and the whole part
eats_whole : (strict negative : Bool) (k : List Frame) (d : ℕ) (ds sign t : List ℕ) → Sign negative sign → Whole (d ∷ ds) t → Eats strict (due k) (sign ++ t) (λ x. go (in_number (first_phase d) (numeral negative (d ∷ ds)) k)) Anything
unfolding step
eats_whole strict true k d ds sign t s w =
    let q = whole_digits d ds t w in
    let whole : Eats strict (in_number BeforeWhole (numeral true []) k) ((d + 48) ∷ map (λ x. x + 48) ds) (λ x. go (in_number (first_phase d) (numeral true (d ∷ ds)) k)) Anything =
    eats_then strict (in_number BeforeWhole (numeral true []) k) (in_number (first_phase d) (numeral true (d ∷ [])) k) ((d + 48) ∷ []) (map (λ x. x + 48) ds) _ Anything
    (eats_mark strict BeforeWhole (first_phase d) (numeral true []) (numeral true (d ∷ [])) k (d + 48) (Figure d) (mark-digit d q.0) refl) (eats_rest strict true k d ds t w) in
    let minus : Eats strict (due k) (45 ∷ []) (λ x. go (in_number BeforeWhole (numeral true []) k)) Anything =
    eats_byte strict (due k) 45 (λ x. go (in_number BeforeWhole (numeral true []) k)) (λ at. ap (step_due strict at k 45) kind-minus) in
    let both = eats_then strict (due k) (in_number BeforeWhole (numeral true []) k) (45 ∷ []) ((d + 48) ∷ map (λ x. x + 48) ds) (λ x. go (in_number (first_phase d) (numeral true (d ∷ ds)) k)) Anything minus whole in
    eats_same strict (due k) _ (sign ++ t) _ Anything (sym (ap₂ (λ (x y : List ℕ). x ++ y) s q.1)) both
eats_whole strict false k d ds sign t s w =
    let q = whole_digits d ds t w in
    let n : d + 48 - 48 ≡ d = omega arith in
    let first : Eats strict (due k) ((d + 48) ∷ []) (λ x. go (in_number (first_phase d) (numeral false (d ∷ [])) k)) Anything =
    eats_byte strict (due k) (d + 48) (λ x. go (in_number (first_phase d) (numeral false (d ∷ [])) k))
    (λ at. ap (step_due strict at k (d + 48)) (kind-digit d q.0) ∙ ap (λ m. go (in_number (first_phase m) (numeral false (m ∷ [])) k)) n) in
    let both = eats_then strict (due k) (in_number (first_phase d) (numeral false (d ∷ [])) k) ((d + 48) ∷ []) (map (λ x. x + 48) ds) (λ x. go (in_number (first_phase d) (numeral false (d ∷ ds)) k)) Anything first (eats_rest strict false k d ds t w) in
    eats_same strict (due k) _ (sign ++ t) _ Anything (sym (ap₂ (λ (x y : List ℕ). x ++ y) s q.1)) both

-- in one phase or another
pub record Onward (strict : Bool) (s : State) (t : List ℕ) (m : Numeral) (k : List Frame) (Fit : Phase → Type 0) : Type 0 where
  pub phase : Phase
  pub fits : Fit phase
  pub eaten : Eats strict s t (λ x. go (in_number phase m k)) Anything

eats_fraction : (strict : Bool) (k : List Frame) (p : Phase) (n : Numeral) (ds t : List ℕ) → AfterWhole p → Fraction ds t → Onward strict (in_number p n k) t (record n { digits = n.digits ++ ds; places = n.places + length ds }) k AfterFraction
eats_fraction strict k p n [] t a f = record {
  phase = p;
  fits = record { letter = a.letter; may = a.may };
  eaten = eats_same strict (in_number p n k) [] t _ Anything (sym f) (subst (λ m. Eats strict (in_number p n k) [] (λ x. go (in_number p m k)) Anything) (fraction_is [] n) (eats_none strict (in_number p n k)));
}
eats_fraction strict k p n (d ∷ ds) t a f = record {
  phase = InFraction;
  fits = record { letter = λ m. refl; may = refl };
  eaten =
      let point : Eats strict (in_number p n k) (46 ∷ []) (λ x. go (in_number AfterPoint n k)) Anything = eats_mark strict p AfterPoint n n k 46 Point mark-point (a.point n) in
      let digits = eats_first strict AfterPoint InFraction with_fraction k (λ m x. refl) (λ m x. refl) d ds n f.second.0 in
      let both = eats_then strict (in_number p n k) (in_number AfterPoint n k) (46 ∷ []) (map (λ x. x + 48) (d ∷ ds)) _ Anything point digits in
      let same : (46 ∷ []) ++ map (λ x. x + 48) (d ∷ ds) ≡ t = sym (f.whole ∙ ap₂ (λ (x y : List ℕ). x ++ y) f.first f.second.1) in
      eats_same strict (in_number p n k) _ t _ Anything same (subst (λ m. Eats strict (in_number p n k) ((46 ∷ []) ++ map (λ x. x + 48) (d ∷ ds)) (λ x. go (in_number InFraction m k)) Anything) (fraction_is (d ∷ ds) n) both);
}

abbrev MayEnd : Phase → Type 0
MayEnd p = may_end p ≡ true

-- the digits of an exponent, behind its letter or its sign
eats_power : (strict : Bool) (k : List Frame) (p : Phase) (n : Numeral) (d : ℕ) (ds : List ℕ) → n.power ≡ 0 → ((m : Numeral) (x : ℕ) → step_number p m (Figure x) ≡ goes_on InPower (with_power m x)) → AllByRecursion (λ x. x < 10) (d ∷ ds)
    → Eats strict (in_number p n k) (map (λ x. x + 48) (d ∷ ds)) (λ x. go (in_number InPower (record n { power = min (number_from_digits 10 (d ∷ ds)) MOST_EXPONENT }) k)) Anything
eats_power strict k p n d ds zero_power goes all =
    let z : n.power ≡ min 0 MOST_EXPONENT = zero_power in
    subst (λ m. Eats strict (in_number p n k) (map (λ x. x + 48) (d ∷ ds)) (λ x. go (in_number InPower m k)) Anything) (power_is (d ∷ ds) n 0 z)
    (eats_first strict p InPower with_power k goes (λ m x. refl) d ds n all)

abbrev with_sign : Numeral → Bool → Numeral
with_sign n b = record n { below = b }

sign_steps : (strict : Bool) (k : List Frame) (n : Numeral) (below : Bool) (sign : List ℕ) (d : ℕ) (ds : List ℕ) → n.below ≡ false → n.power ≡ 0 → ExponentSign below sign → AllByRecursion (λ x. x < 10) (d ∷ ds)
    → Eats strict (in_number AfterLetter n k) (sign ++ map (λ x. x + 48) (d ∷ ds)) (λ x. go (in_number InPower (record n { below = below; power = min (number_from_digits 10 (d ∷ ds)) MOST_EXPONENT }) k)) Anything
sign_steps strict k n true sign d ds plain zero_power s all =
    let minus : Eats strict (in_number AfterLetter n k) (45 ∷ []) (λ x. go (in_number AfterSign (with_sign n true) k)) Anything = eats_mark strict AfterLetter AfterSign n (with_sign n true) k 45 MinusSign mark-minus refl in
    let both = eats_then strict (in_number AfterLetter n k) (in_number AfterSign (with_sign n true) k) (45 ∷ []) (map (λ x. x + 48) (d ∷ ds)) _ Anything minus (eats_power strict k AfterSign (with_sign n true) d ds zero_power (λ m x. refl) all) in
    eats_same strict (in_number AfterLetter n k) _ _ _ Anything (ap (λ (x : List ℕ). x ++ map (λ x. x + 48) (d ∷ ds)) (sym s)) both
sign_steps strict k n false sign d ds plain zero_power (inl none) all =
    let e : record n { power = min (number_from_digits 10 (d ∷ ds)) MOST_EXPONENT } ≡ record n { below = false; power = min (number_from_digits 10 (d ∷ ds)) MOST_EXPONENT } = ap (λ b. record n { below = b; power = min (number_from_digits 10 (d ∷ ds)) MOST_EXPONENT }) plain in
    eats_same strict (in_number AfterLetter n k) _ _ _ Anything (ap (λ (x : List ℕ). x ++ map (λ x. x + 48) (d ∷ ds)) (sym none))
    (subst (λ m. Eats strict (in_number AfterLetter n k) (map (λ x. x + 48) (d ∷ ds)) (λ x. go (in_number InPower m k)) Anything) e (eats_power strict k AfterLetter n d ds zero_power (λ m x. refl) all))
sign_steps strict k n false sign d ds plain zero_power (inr s) all =
    let plus : Eats strict (in_number AfterLetter n k) (43 ∷ []) (λ x. go (in_number AfterSign (with_sign n false) k)) Anything = eats_mark strict AfterLetter AfterSign n (with_sign n false) k 43 PlusSign mark-plus refl in
    let both = eats_then strict (in_number AfterLetter n k) (in_number AfterSign (with_sign n false) k) (43 ∷ []) (map (λ x. x + 48) (d ∷ ds)) _ Anything plus (eats_power strict k AfterSign (with_sign n false) d ds zero_power (λ m x. refl) all) in
    eats_same strict (in_number AfterLetter n k) _ _ _ Anything (ap (λ (x : List ℕ). x ++ map (λ x. x + 48) (d ∷ ds)) (sym s)) both

eats_letter : (strict : Bool) (k : List Frame) (p : Phase) (n : Numeral) (t : List ℕ) → AfterFraction p → Letter t → Eats strict (in_number p n k) t (λ x. go (in_number AfterLetter n k)) Anything
eats_letter strict k p n t a (inl e) = eats_same strict (in_number p n k) (101 ∷ []) t _ Anything (sym e) (eats_mark strict p AfterLetter n n k 101 LetterE mark-e (a.letter n))
eats_letter strict k p n t a (inr e) = eats_same strict (in_number p n k) (69 ∷ []) t _ Anything (sym e) (eats_mark strict p AfterLetter n n k 69 LetterE mark-E (a.letter n))

eats_exponent : (strict : Bool) (k : List Frame) (p : Phase) (n : Numeral) (below : Bool) (ds t : List ℕ) → n.below ≡ false → n.power ≡ 0 → AfterFraction p → Exponent below ds t
    → Onward strict (in_number p n k) t (record n { below = below; power = min (number_from_digits 10 ds) MOST_EXPONENT }) k MayEnd
eats_exponent strict k p n below [] t plain zero_power a x = record {
  phase = p;
  fits = a.may;
  eaten =
      let e : n ≡ record n { below = below; power = min (number_from_digits 10 []) MOST_EXPONENT } = ap₂ (λ b q. record n { below = b; power = q }) (plain ∙ sym x.0) zero_power in
      eats_same strict (in_number p n k) [] t _ Anything (sym x.1) (subst (λ m. Eats strict (in_number p n k) [] (λ y. go (in_number p m k)) Anything) e (eats_none strict (in_number p n k)));
}
eats_exponent strict k p n below (d ∷ ds) t plain zero_power a x = record {
  phase = InPower;
  fits = refl;
  eaten =
      let both = eats_then strict (in_number p n k) (in_number AfterLetter n k) x.front (x.second.front ++ map (λ y. y + 48) (d ∷ ds)) _ Anything
      (eats_letter strict k p n x.front a x.first) (sign_steps strict k n below x.second.front d ds plain zero_power x.second.first x.second.second.0) in
      let same : x.front ++ (x.second.front ++ map (λ y. y + 48) (d ∷ ds)) ≡ t = sym (x.whole ∙ ap (λ (y : List ℕ). x.front ++ y) (x.second.whole ∙ ap (λ (y : List ℕ). x.second.front ++ y) x.second.second.1)) in
      eats_same strict (in_number p n k) _ t _ Anything same both;
}

-- ---- the end of a number

number_ends_before : (strict : Bool) (p : Phase) (n : Numeral) (m : Number) (k : List Frame) → may_end p ≡ true → Eats strict (in_number p n k) [] (deliver (number (numeral_value n)) k) (EndsBefore (number m))
unfolding step walk
number_ends_before strict p n m k may = record { eats = λ at rest h. (let e : at ≡ at + 0 = omega arith in ended k at rest h ∙ ap (λ x. after strict x (deliver (number (numeral_value n)) k x) rest) e) }
  where
    cut : (f : List Frame) (at : ℕ) → settle_number at p n f true ≡ after strict at (deliver (number (numeral_value n)) f at) []
    cut [] at = refl
    cut (f ∷ fs) at = refl

    past : (f : List Frame) (at b : ℕ) (rest : List ℕ) → after strict (at + 1) (step_past at (number (numeral_value n)) f (kind_of b)) rest ≡ after strict at (deliver (number (numeral_value n)) f at) (b ∷ rest)
    past [] at b rest = refl
    past (f ∷ fs) at b rest = refl

    ended : (f : List Frame) (at : ℕ) (rest : List ℕ) → EndsBefore (number m) rest → walk strict at (in_number p n f) rest ≡ after strict at (deliver (number (numeral_value n)) f at) rest
    ended f at [] h = ap (settle_number at p n f) may ∙ cut f at
    ended f at (b ∷ rest) h =
        ap (λ x. after strict (at + 1) (step_in_number at f (kind_of b) x) rest) (ap (step_number p n) (mark-over b h) ∙ ap (λ y. step_over y n) may) ∙ past f at b rest

pub eats_number : (strict : Bool) (k : List Frame) (m : Number) (t : List ℕ) → IsNumber m t → Eats strict (due k) t (deliver (number m) k) (EndsBefore (number m))
eats_number strict k m t is = by_whole is.whole is.spelled refl
  where
    value_is : (n : Numeral) → n ≡ record { negative = m.negative; digits = is.whole ++ is.fraction; places = length is.fraction; below = is.below; power = min (number_from_digits 10 is.power) MOST_EXPONENT } → numeral_value n ≡ m
    value_is n e = ap numeral_value e ∙ ap₂ (λ x y. record { negative = m.negative; digits = x; exponent = y }) (sym is.digits) (sym is.exponent)

    by_whole : (ds : List ℕ) → Joined (Sign m.negative) (Joined (Whole ds) (Joined (Fraction is.fraction) (Exponent is.below is.power))) t → ds ≡ is.whole → Eats strict (due k) t (deliver (number m) k) (EndsBefore (number m))
    by_whole [] s e = absurd s.second.first
    by_whole (d ∷ ds) s e =
        let w = eats_whole strict m.negative k d ds s.front s.second.front s.first s.second.first in
        let f = eats_fraction strict k (first_phase d) (numeral m.negative (d ∷ ds)) is.fraction s.second.second.front (after_first (d == 0)) s.second.second.first in
        let n : Numeral = record { negative = m.negative; digits = (d ∷ ds) ++ is.fraction; places = 0 + length is.fraction; below = false; power = 0 } in
        let x = eats_exponent strict k f.phase n is.below is.power s.second.second.back refl refl f.fits s.second.second.second in
        let last : Numeral = record n { below = is.below; power = min (number_from_digits 10 is.power) MOST_EXPONENT } in
        let value : numeral_value last ≡ m = value_is last (ap₂ (λ y z. record { negative = m.negative; digits = y ++ is.fraction; places = z; below = is.below; power = min (number_from_digits 10 is.power) MOST_EXPONENT }) e (let q : 0 + length is.fraction ≡ length is.fraction = omega arith in q)) in
        let wf = eats_then strict (due k) (in_number (first_phase d) (numeral m.negative (d ∷ ds)) k) (s.front ++ s.second.front) s.second.second.front _ Anything w f.eaten in
        let wfx = eats_then strict (due k) (in_number f.phase n k) ((s.front ++ s.second.front) ++ s.second.second.front) s.second.second.back _ Anything wf x.eaten in
        let all = eats_then strict (due k) (in_number x.phase last k) (((s.front ++ s.second.front) ++ s.second.second.front) ++ s.second.second.back) [] (deliver (number (numeral_value last)) k) (EndsBefore (number m)) wfx (number_ends_before strict x.phase last m k x.fits) in
        let same : (((s.front ++ s.second.front) ++ s.second.second.front) ++ s.second.second.back) ++ [] ≡ t =
        append-nil _ ∙ append_assoc (s.front ++ s.second.front) s.second.second.front s.second.second.back ∙ append_assoc s.front s.second.front (s.second.second.front ++ s.second.second.back)
        ∙ sym (s.whole ∙ ap (λ (y : List ℕ). s.front ++ y) (s.second.whole ∙ ap (λ (y : List ℕ). s.second.front ++ y) s.second.second.whole)) in
        eats_same strict (due k) _ t _ (EndsBefore (number m)) same (eats_next strict (due k) _ (deliver (number (numeral_value last)) k) (deliver (number m) k) (EndsBefore (number m)) (λ y. ap (λ v. deliver (number v) k y) value) all)
