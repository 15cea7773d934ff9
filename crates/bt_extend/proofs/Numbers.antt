-- The words of numbers and of literals.
use Rattle.std.proofs.Common.{◌≡◌, ◌≢◌, ℕ, ◌^◌, ◌<◌, ◌≤◌, ◌⊎◌, Bool, true, false, not, IsTrue, cond, Option, None, Some, IfSome, IfNone, List, [], ◌∷◌, length, take, get_or, refl, sym, ◌∙◌, ap, subst, inl, inr, arith}
use Rattle.std.specs.Fmt.{decimal}
use Rattle.std.proofs.lemmas.Bool.{false≢true}
use Rattle.std.specs.Int.{IsInRange}
use Rattle.std.specs.Str.Parse.{AllDigits, digits_value}
use Rattle.std.proofs.lemmas.Fmt.{decimal_digit, length-decimal-le_wide}
use Rattle.std.proofs.lemmas.Int.Digits.{digits_value-lt}
use Rattle.std.proofs.lemmas.List.{length-take}
use Rattle.std.proofs.lemmas.List.Elements.{All-head, All-cons}
use Rattle.std.proofs.Math.Nat.{pow-le-pow_right}
use Rattle.bt_text.specs.Lines.{Lacks}
use Rattle.bt_frac.specs.Numbers.{Spells}
use Rattle.bt_frac.proofs.Numerals.{Spells-decimal, decimal-from_spells, decimal-lacks, decimal_apart}
use Rattle.bt_extend.specs.Words.{IsNumber, IsWrittenLit, written_lit_text}
use Rattle.bt_extend.specs.declared.written.WrittenLit.{WrittenLit}

wide : (n : ℕ) → IsNumber n → n < 10 ^ 64
wide n h = let short = h.short in omega arith

low : (byte : ℕ) → byte < 48 → ¬ IsInRange 48 57 byte
low byte h range = omega arith

-- the bytes of a number are digits
pub number_lacks : (n byte : ℕ) → IsNumber n → byte < 48 → Lacks byte (decimal n)
number_lacks n byte h below = decimal-lacks n byte (wide n h) (low byte below)

-- each number has a word of its own
pub number_same : (m n : ℕ) → IsNumber m → IsNumber n → decimal m ≡ decimal n → m ≡ n
number_same m n h k e = decimal_apart m n (wide m h) (wide n k) e

-- no number has the word `0`
pub number_not_zero : (n : ℕ) → IsNumber n → decimal n ≡ 48 ∷ [] → ⊥
number_not_zero n h e =
    let zero_word : decimal 0 ≡ 48 ∷ [] = decimal_digit 0 (omega arith) in
    let same : n ≡ 0 = decimal_apart n 0 (wide n h) (omega arith) (e ∙ sym zero_word) in
    let some = h.positive in omega arith

-- no number begins with a minus
number_not_sign : (n : ℕ) (rest : List ℕ) → IsNumber n → decimal n ≡ 45 ∷ rest → ⊥
number_not_sign n rest h e = All-head (λ b. b ≢ 45) 45 rest (subst (λ ds. Lacks 45 ds) e (number_lacks n 45 h (omega arith))) refl

sign_lacks : (positive : Bool) (n byte : ℕ) → IsNumber n → byte < 48 → byte ≢ 45 → Lacks byte (cond positive (decimal n) (45 ∷ decimal n))
sign_lacks true n byte h below sign = number_lacks n byte h below
sign_lacks false n byte h below sign = All-cons (λ b. b ≢ byte) 45 (decimal n) (λ same. sign (sym same)) (number_lacks n byte h below)

-- the bytes of a literal are a minus and digits
pub lit_lacks : (l : WrittenLit) (byte : ℕ) → IsWrittenLit l → byte < 48 → byte ≢ 45 → Lacks byte (written_lit_text l)
lit_lacks l byte h below sign = sign_lacks l.positive l.number byte h below sign

sign_same : (p q : Bool) (m n : ℕ) → IsNumber m → IsNumber n → cond p (decimal m) (45 ∷ decimal m) ≡ cond q (decimal n) (45 ∷ decimal n) → (p ≡ q) × (m ≡ n)
sign_same true true m n h k e = (refl, number_same m n h k e)
sign_same true false m n h k e = absurd (number_not_sign m (decimal n) h e)
sign_same false true m n h k e = absurd (number_not_sign n (decimal m) k (sym e))
sign_same false false m n h k e = let tails : decimal m ≡ decimal n = cc in (refl, number_same m n h k tails)

-- each literal has a word of its own
pub lit_same : (l m : WrittenLit) → IsWrittenLit l → IsWrittenLit m → written_lit_text l ≡ written_lit_text m → l ≡ m
lit_same l m h k e =
    let same = sign_same l.positive m.positive l.number m.number h k e in
    let mk : Bool → ℕ → WrittenLit = λ positive number. record { number = number; positive = positive } in
    ap (λ positive. mk positive l.number) same.0 ∙ ap (λ number. mk m.positive number) same.1

first_apart : (b c : ℕ) (xs ys : List ℕ) → b ≢ c → b ∷ xs ≡ c ∷ ys → ⊥
first_apart b c xs ys apart e = let heads : b ≡ c = cc in apart heads

sign_not_zero : (positive : Bool) (n : ℕ) → IsNumber n → cond positive (decimal n) (45 ∷ decimal n) ≡ 48 ∷ [] → ⊥
sign_not_zero true n h e = number_not_zero n h e
sign_not_zero false n h e = first_apart 45 48 (decimal n) [] (λ same. omega arith) e

-- no literal has the word `0`
pub lit_not_zero : (l : WrittenLit) → IsWrittenLit l → written_lit_text l ≡ 48 ∷ [] → ⊥
lit_not_zero l h e = sign_not_zero l.positive l.number h e

one_digit : (w : List ℕ) → length w ≡ 1 → get_or w 0 0 ≡ 48 → w ≡ 48 ∷ []
one_digit [] few e = absurd (omega arith)
one_digit (c ∷ []) few e = ap (λ b. b ∷ []) e
one_digit (c ∷ d ∷ w) few e = absurd (omega arith)

-- what the word of a number is like
pub record IsNumberWord (w : List ℕ) : Type 0 where
  pub some : 0 < length w
  pub no_zero : get_or w 0 0 ≢ 48
  pub short : length w ≤ 18
  pub digits : AllDigits 10 w

pub number_word : (w : List ℕ) (n : ℕ) → IsNumber n → w ≡ decimal n → IsNumberWord w
number_word w n h e =
    let s : Spells w n = subst (λ v. Spells v n) (sym e) (Spells-decimal n (wide n h)) in
    record {
      some = s.some_digit;
      no_zero = λ zero. number_not_zero n h (sym e ∙ one_digit w (s.no_zero zero) zero);
      short = subst (λ v. length v ≤ 18) (sym e) (length-decimal-le_wide 18 n (omega arith) h.short (wide n h));
      digits = s.digits;
    }

-- the value of so many digits is small
value_below : (w : List ℕ) (k : ℕ) → AllDigits 10 w → length w ≤ k → digits_value 10 w < 10 ^ k
value_below w k all few = omega (arith, digits_value-lt 10 w all, pow-le-pow_right {n = 10} (omega arith) {i = length w} {j = k} few)

pub value_so_far : (w : List ℕ) (i : ℕ) → AllDigits 10 (take i w) → i < length w → length w ≤ 18 → digits_value 10 (take i w) < 10 ^ 17
value_so_far w i all inside few = value_below (take i w) 17 all (omega (arith, length-take i w))

-- a word like that is the word of its value
number_of_word : (w : List ℕ) (n : ℕ) → IsNumberWord w → n ≡ digits_value 10 w → IsNumber n × (w ≡ decimal n)
number_of_word w n is value =
    let s : Spells w n = record { some_digit = is.some; digits = is.digits; no_zero = λ zero. absurd (is.no_zero zero); value = sym value } in
    let below : digits_value 10 w < 10 ^ 18 = value_below w 18 is.digits is.short in
    let word : w ≡ decimal n = decimal-from_spells w n s (omega arith) in
    let zero_word : decimal 0 ≡ 48 ∷ [] = decimal_digit 0 (omega arith) in
    let some : n ≡ 0 → ⊥ = λ zero. is.no_zero (ap (λ v. get_or v 0 0) (word ∙ ap decimal zero ∙ zero_word)) in
    (record { positive = omega (arith, some); short = omega arith }, word)

-- the number that was read of a word
pub some_number : (w : List ℕ) (o : Option ℕ) → 0 < length w → get_or w 0 0 ≢ 48 → length w ≤ 18 → IfSome o (λ n. AllDigits 10 w × (n ≡ digits_value 10 w))
    → IfSome o (λ n. IsNumber n × (w ≡ decimal n))
some_number w None some no_zero short h = tt
some_number w (Some n) some no_zero short h = number_of_word w n (record { some = some; no_zero = no_zero; short = short; digits = h.0 }) h.1

pub none_number : (w : List ℕ) (o : Option ℕ) → IfNone o (AllDigits 10 w → ⊥) → IfNone o ((n : ℕ) → IsNumber n → w ≡ decimal n → ⊥)
none_number w None h = λ n is e. h (number_word w n is e).digits
none_number w (Some n) h = tt

-- the bytes are those of the literal whose sign and digits were read
pub lit_read : (bytes digits : List ℕ) (negative : Bool) (n : ℕ) → bytes ≡ cond negative (45 ∷ digits) digits → digits ≡ decimal n
    → bytes ≡ cond (not negative) (decimal n) (45 ∷ decimal n)
lit_read bytes digits true n e word = e ∙ ap (λ d. 45 ∷ d) word
lit_read bytes digits false n e word = e ∙ word

no_lit_at : (positive : Bool) (n : ℕ) (bytes digits : List ℕ) (negative : Bool) → IsNumber n → bytes ≡ cond negative (45 ∷ digits) digits
    → IsTrue negative ⊎ ((rest : List ℕ) → bytes ≢ 45 ∷ rest) → ((m : ℕ) → IsNumber m → digits ≡ decimal m → ⊥)
    → bytes ≡ cond positive (decimal n) (45 ∷ decimal n) → ⊥
no_lit_at true n bytes digits true h e minus none is = number_not_sign n digits h (sym is ∙ e)
no_lit_at true n bytes digits false h e minus none is = none n h (sym e ∙ is)
no_lit_at false n bytes digits true h e minus none is = let both = sym e ∙ is in let tails : digits ≡ decimal n = cc in none n h tails
no_lit_at false n bytes digits false h e (inl signed) none is = false≢true signed
no_lit_at false n bytes digits false h e (inr isnt) none is = isnt (decimal n) is

-- where the digits are those of no number, the bytes are those of no literal
pub no_lit_read : (bytes digits : List ℕ) (negative : Bool) → bytes ≡ cond negative (45 ∷ digits) digits
    → IsTrue negative ⊎ ((rest : List ℕ) → bytes ≢ 45 ∷ rest) → ((n : ℕ) → IsNumber n → digits ≡ decimal n → ⊥)
    → (l : WrittenLit) → IsWrittenLit l → bytes ≡ written_lit_text l → ⊥
no_lit_read bytes digits negative e minus none l h is = no_lit_at l.positive l.number bytes digits negative h e minus none is
