-- The words that spell fractions.
use Rattle.std.proofs.Common.{◌≡◌, ◌≢◌, ℕ, ◌<◌, ◌^◌, ◌⊎◌, inl, inr, arith, ℤ, pos, negsuc, List, [], ◌∷◌, ◌++◌, length, ap, sym, ◌∙◌, refl, subst, unsigned_abs, Bool, true, false, IsTrue, cond, ◌==◌, min, ◌-◌, zero, suc, lit<, Option, Some, None, IfSome, IfNone}
use Rattle.std.specs.Fmt.{decimal}
use Rattle.std.specs.Int.{IsInRange}
use Rattle.std.proofs.lemmas.Bool.{false≢true}
use Rattle.std.proofs.lemmas.Bool.Decides.{nat_tests}
use Rattle.std.proofs.lemmas.List.Elements.{All-head, All-tail}
use Rattle.std.specs.List.{All}
use Rattle.bt_frac.specs.Numbers.{Spells}
use Rattle.bt_frac.proofs.Numerals.{Spells-decimal, Spells-unique, Spells-lacks, decimal-from_spells}
use Rattle.bt_frac.specs.Ratio.{Ratio, IsLowest, parts_ratio}
use Rattle.bt_frac.specs.Texts.{frac_text}
use Rattle.bt_frac.specs.inner.Words.{HasNoSlash, IsCutAtSlash, WordOf, AroundSlash, HasRead, IsSigned}
use Rattle.bt_frac.proofs.Quotients.{parts_size}

not_digit : (b : ℕ) → b < 48 → ¬ IsInRange 48 57 b
not_digit b h r = omega arith

-- a byte that a list lacks stands nowhere in it
lacks_split : (byte : ℕ) (front back : List ℕ) → All (λ other. other ≢ byte) (front ++ byte ∷ back) → ⊥
lacks_split byte [] back h = All-head (λ other. other ≢ byte) byte back h refl
lacks_split byte (x ∷ front) back h = lacks_split byte front back (All-tail (λ other. other ≢ byte) x (front ++ byte ∷ back) h)

-- a list splits in one way at the first such byte
split_unique : (byte : ℕ) (front front' back back' : List ℕ) → All (λ other. other ≢ byte) front → All (λ other. other ≢ byte) front' → front ++ byte ∷ back ≡ front' ++ byte ∷ back'
    → (front ≡ front') × (back ≡ back')
split_unique byte [] [] back back' h k e = (refl, cc)
split_unique byte [] (y ∷ front') back back' h k e =
    let same : y ≡ byte = cc in
    absurd (All-head (λ other. other ≢ byte) y front' k same)
split_unique byte (x ∷ front) [] back back' h k e =
    let same : x ≡ byte = cc in
    absurd (All-head (λ other. other ≢ byte) x front h same)
split_unique byte (x ∷ front) (y ∷ front') back back' h k e =
    let rest : front ++ byte ∷ back ≡ front' ++ byte ∷ back' = cc in
    let both = split_unique byte front front' back back' (All-tail (λ other. other ≢ byte) x front h) (All-tail (λ other. other ≢ byte) y front' k) rest in
    let first : x ≡ y = cc in
    (let front_is = both.0 in cc, both.1)

slash : ¬ IsInRange 48 57 47
slash = not_digit 47 (lit< tt)

-- a word is of one pair of numbers
WordOf-unique : (word : List ℕ) (m n m' n' : ℕ) → WordOf word m n → WordOf word m' n' → (m ≡ m') × (n ≡ n')
WordOf-unique word m n m' n' (inl p) (inl q) = (Spells-unique p.0 q.0, p.1 ∙ sym q.1)
WordOf-unique word m n m' n' (inl p) (inr q) =
    absurd (lacks_split 47 q.0 q.1.0 (subst HasNoSlash q.1.1 (Spells-lacks word m 47 p.0 slash)))
WordOf-unique word m n m' n' (inr p) (inl q) =
    absurd (lacks_split 47 p.0 p.1.0 (subst HasNoSlash p.1.1 (Spells-lacks word m' 47 q.0 slash)))
WordOf-unique word m n m' n' (inr p) (inr q) =
    let both = split_unique 47 p.0 q.0 p.1.0 q.1.0 (Spells-lacks p.0 m 47 p.1.2.0 slash) (Spells-lacks q.0 m' 47 q.1.2.0 slash) (sym p.1.1 ∙ q.1.1) in
    (Spells-unique (subst (λ w. Spells w m) both.0 p.1.2.0) q.1.2.0, Spells-unique (subst (λ w. Spells w n) both.1 p.1.2.1) q.1.2.1)

-- the word of a fraction without its sign
word_text : ℕ → ℕ → List ℕ
word_text m n = cond (n == 1) (decimal m) (decimal m ++ 47 ∷ decimal n)

ne_test : (n : ℕ) → n ≢ 1 → (n == 1) ≡ false
ne_test n h = grind (arith, nat_tests)

eq_test : (n : ℕ) → (n == 1) ≡ true → n ≡ 1
eq_test n h = grind (arith, nat_tests)

not_eq_test : (n : ℕ) → (n == 1) ≡ false → n ≢ 1
not_eq_test n h e = grind (arith, nat_tests)

wide : (n : ℕ) → n < 2 ^ 127 → n < 10 ^ 64
wide n h = omega arith

word_at : (m n : ℕ) (t : Bool) → m < 2 ^ 127 → n < 2 ^ 127 → (n == 1) ≡ t → WordOf (cond t (decimal m) (decimal m ++ 47 ∷ decimal n)) m n
word_at m n true h k e = inl (Spells-decimal m (wide m h), eq_test n e)
word_at m n false h k e = inr (decimal m, (decimal n, refl, (Spells-decimal m (wide m h), Spells-decimal n (wide n k), not_eq_test n e)))

WordOf-text : (m n : ℕ) → m < 2 ^ 127 → n < 2 ^ 127 → WordOf (word_text m n) m n
unfolding word_text
WordOf-text m n h k = word_at m n (n == 1) h k refl

-- a word of small numbers is their text
WordOf-is : (word : List ℕ) (m n : ℕ) → m < 2 ^ 127 → n < 2 ^ 127 → WordOf word m n → word ≡ word_text m n
unfolding word_text
WordOf-is word m n h k (inl p) = decimal-from_spells word m p.0 (wide m h) ∙ sym (ap (λ j. word_text m j) p.1)
WordOf-is word m n h k (inr p) =
    p.1.1 ∙ ap (λ w. w ++ 47 ∷ p.1.0) (decimal-from_spells p.0 m p.1.2.0 (wide m h)) ∙ ap (λ w. decimal m ++ 47 ∷ w) (decimal-from_spells p.1.0 n p.1.2.1 (wide n k))
    ∙ sym (ap (λ t. cond t (decimal m) (decimal m ++ 47 ∷ decimal n)) (ne_test n p.1.2.2))

minus : ¬ IsInRange 48 57 45
minus = not_digit 45 (lit< tt)

first_lacks : (front back word : List ℕ) → 0 < length front → All (λ other. other ≢ 45) front → front ++ back ≡ 45 ∷ word → ⊥
first_lacks [] back word some h e = omega arith
first_lacks (x ∷ front) back word some h e = let same : x ≡ 45 = cc in All-head (λ other. other ≢ 45) x front h same

-- no word begins with a minus
WordOf-unsigned : (rest : List ℕ) (m n : ℕ) → WordOf (45 ∷ rest) m n → ⊥
WordOf-unsigned rest m n (inl p) = lacks_split 45 [] rest (Spells-lacks (45 ∷ rest) m 45 p.0 minus)
WordOf-unsigned rest m n (inr p) = first_lacks p.0 (47 ∷ p.1.0) rest p.1.2.0.some_digit (Spells-lacks p.0 m 45 p.1.2.0 minus) (sym p.1.1)

-- the text of parts is their sign and their word
signed_at : (k n : ℕ) (t : Bool) → cond t (45 ∷ decimal (suc k)) ((45 ∷ decimal (suc k)) ++ 47 ∷ decimal n) ≡ 45 ∷ cond t (decimal (suc k)) (decimal (suc k) ++ 47 ∷ decimal n)
signed_at k n true = refl
signed_at k n false = refl

parts_text : (negative : Bool) (m n : ℕ) → (IsTrue negative → 0 < m) → frac_text (parts_ratio negative m n) ≡ cond negative (45 ∷ word_text m n) (word_text m n)
unfolding word_text
parts_text false m n some = refl
parts_text true zero n some = let h : 0 < 0 = some refl in absurd (omega arith)
parts_text true (suc k) n some = signed_at k n (n == 1)

-- each fraction has a sign and a size
record HasParts (f : Ratio) : Type 0 where
  negative : Bool
  some : IsTrue negative → 0 < unsigned_abs f.over
  is : f ≡ parts_ratio negative (unsigned_abs f.over) f.under

has_parts_of : (z : ℤ) (n : ℕ) → HasParts (record { over = z; under = n })
has_parts_of (pos m) n = record { negative = false; some = λ h. absurd (false≢true h); is = refl }
has_parts_of (negsuc k) n = record { negative = true; some = λ h. omega arith; is = refl }

has_parts : (f : Ratio) → HasParts f
has_parts f = has_parts_of f.over f.under

-- what a text that spells a fraction has behind its sign
pub record Spelled (word : List ℕ) (negative : Bool) (f : Ratio) : Type 0 where
  pub word_of : WordOf word (unsigned_abs f.over) f.under
  pub some : IsTrue negative → 0 < unsigned_abs f.over
  pub is : f ≡ parts_ratio negative (unsigned_abs f.over) f.under

spelled_by : (text word : List ℕ) (negative negative' : Bool) (f : Ratio) → IsSigned text negative word → (IsTrue negative ⊎ ((rest : List ℕ) → text ≢ 45 ∷ rest))
    → WordOf (word_text (unsigned_abs f.over) f.under) (unsigned_abs f.over) f.under
    → (IsTrue negative' → 0 < unsigned_abs f.over) → f ≡ parts_ratio negative' (unsigned_abs f.over) f.under
    → text ≡ cond negative' (45 ∷ word_text (unsigned_abs f.over) f.under) (word_text (unsigned_abs f.over) f.under) → Spelled word negative f
spelled_by text word true true f s no_minus w some is e =
    let same : word_text (unsigned_abs f.over) f.under ≡ word = cc in
    record { word_of = subst (λ x. WordOf x (unsigned_abs f.over) f.under) same w; some = some; is = is }
spelled_by text word true false f s no_minus w some is e =
    absurd (WordOf-unsigned word (unsigned_abs f.over) f.under (subst (λ x. WordOf x (unsigned_abs f.over) f.under) (sym e ∙ s) w))
spelled_by text word false true f s (inl h) w some is e = absurd (false≢true h)
spelled_by text word false true f s (inr h) w some is e = absurd (h (word_text (unsigned_abs f.over) f.under) e)
spelled_by text word false false f s no_minus w some is e =
    record { word_of = subst (λ x. WordOf x (unsigned_abs f.over) f.under) (sym e ∙ s) w; some = some; is = is }

pub spelled : (text word : List ℕ) (negative : Bool) (f : Ratio) → IsSigned text negative word → (IsTrue negative ⊎ ((rest : List ℕ) → text ≢ 45 ∷ rest))
    → IsLowest f → text ≡ frac_text f → Spelled word negative f
spelled text word negative f s no_minus low e =
    let parts = has_parts f in
    spelled_by text word negative parts.negative f s no_minus (WordOf-text (unsigned_abs f.over) f.under low.over_fits low.under_fits) parts.some parts.is
    (e ∙ ap frac_text parts.is ∙ parts_text parts.negative (unsigned_abs f.over) f.under parts.some)

-- the numbers read of a word that spells a fraction are its parts
least : (m n v : ℕ) → m ≡ n → n < 2 ^ 127 → v ≡ min m (2 ^ 128 - 1) → v ≡ n
least m n v e h r = omega arith

least_back : (m v : ℕ) → v < 2 ^ 127 → v ≡ min m (2 ^ 128 - 1) → m ≡ v
least_back m v h r = omega arith

pub read_none : (text word : List ℕ) (negative : Bool) (size under : ℕ) → IsSigned text negative word → (IsTrue negative ⊎ ((rest : List ℕ) → text ≢ 45 ∷ rest))
    → HasRead word size under → ((IsTrue negative → 0 < size) → IsLowest (parts_ratio negative size under) → ⊥) → (f : Ratio) → IsLowest f → text ≢ frac_text f
read_none text word negative size under s no_minus r none f low e =
    let w = spelled text word negative f s no_minus low e in
    let both = WordOf-unique word r.0 r.1.0 (unsigned_abs f.over) f.under r.1.1 w.word_of in
    let size_is : size ≡ unsigned_abs f.over = least r.0 (unsigned_abs f.over) size both.0 low.over_fits r.1.2 in
    let under_is : under ≡ f.under = least r.1.0 f.under under both.1 low.under_fits r.1.3 in
    none (λ h. subst (λ n. 0 < n) (sym size_is) (w.some h))
    (subst (λ m. IsLowest (parts_ratio negative m under)) (sym size_is) (subst (λ n. IsLowest (parts_ratio negative (unsigned_abs f.over) n)) (sym under_is) (subst IsLowest w.is low)))

pub read_is : (text word : List ℕ) (negative : Bool) (size under : ℕ) (f : Ratio) → IsSigned text negative word → HasRead word size under
    → f ≡ parts_ratio negative size under → (IsTrue negative → 0 < size) → size < 2 ^ 127 → under < 2 ^ 127 → text ≡ frac_text f
read_is text word negative size under f s r is some size_fits under_fits =
    let size_is : r.0 ≡ size = least_back r.0 size size_fits r.1.2 in
    let under_is : r.1.0 ≡ under = least_back r.1.0 under under_fits r.1.3 in
    let w : WordOf word size under = subst (λ m. WordOf word m under) size_is (subst (λ n. WordOf word r.0 n) under_is r.1.1) in
    s ∙ ap (λ x. cond negative (45 ∷ x) x) (WordOf-is word size under size_fits under_fits w) ∙ sym (parts_text negative size under some) ∙ sym (ap frac_text is)

-- a word with no slash that is no numeral, and one whose front or back is none
pub no_word_whole : (word : List ℕ) → HasNoSlash word → ((k : ℕ) → Spells word k → ⊥) → (m n : ℕ) → WordOf word m n → ⊥
no_word_whole word lacks none m n (inl p) = none m p.0
no_word_whole word lacks none m n (inr p) = lacks_split 47 p.0 p.1.0 (subst HasNoSlash p.1.1 lacks)

-- a word with a slash is of the numbers around the first one
around : (word front back : List ℕ) (m n : ℕ) → IsCutAtSlash word front back → WordOf word m n → AroundSlash front back m n
around word front back m n s (inl p) = absurd (lacks_split 47 front back (subst HasNoSlash s.word_is (Spells-lacks word m 47 p.0 slash)))
around word front back m n s (inr p) =
    let both = split_unique 47 p.0 front p.1.0 back (Spells-lacks p.0 m 47 p.1.2.0 slash) s.first (sym p.1.1 ∙ s.word_is) in
    (subst (λ w. Spells w m) both.0 p.1.2.0, subst (λ w. Spells w n) both.1 p.1.2.1, p.1.2.2)

-- a word with a slash is of no numbers where its two sides are not
no_word_around : (word front back : List ℕ) → IsCutAtSlash word front back → ((m n : ℕ) → AroundSlash front back m n → ⊥) → (m n : ℕ) → WordOf word m n → ⊥
no_word_around word front back s none m n w = none m n (around word front back m n s w)

pub none_around : (word front back : List ℕ) (o : Option (ℕ × ℕ)) → IsCutAtSlash word front back → IfNone o ((m n : ℕ) → AroundSlash front back m n → ⊥) → IfNone o ((m n : ℕ) → WordOf word m n → ⊥)
none_around word front back None s p = no_word_around word front back s p
none_around word front back (Some parts) s p = tt

pub some_is : (text word : List ℕ) (negative : Bool) (size under : ℕ) (o : Option Ratio) → IsSigned text negative word → HasRead word size under
    → IfSome o (λ f. (f ≡ parts_ratio negative size under) × (IsTrue negative → 0 < size)) → IfSome o IsLowest → IfSome o (λ f. text ≡ frac_text f)
some_is text word negative size under None s r p q = tt
some_is text word negative size under (Some f) s r p q =
    let low : IsLowest (parts_ratio negative size under) = subst IsLowest p.0 q in
    read_is text word negative size under f s r p.0 p.1 (subst (λ m. m < 2 ^ 127) (parts_size negative size) low.over_fits) low.under_fits

pub none_is : (text word : List ℕ) (negative : Bool) (size under : ℕ) (o : Option Ratio) → IsSigned text negative word → (IsTrue negative ⊎ ((rest : List ℕ) → text ≢ 45 ∷ rest))
    → HasRead word size under → IfNone o ((IsTrue negative → 0 < size) → IsLowest (parts_ratio negative size under) → ⊥)
    → IfNone o ((f : Ratio) → IsLowest f → text ≢ frac_text f)
none_is text word negative size under None s no_minus r p = read_none text word negative size under s no_minus r p
none_is text word negative size under (Some f) s no_minus r p = tt

pub no_word : (text word : List ℕ) (negative : Bool) → IsSigned text negative word → (IsTrue negative ⊎ ((rest : List ℕ) → text ≢ 45 ∷ rest))
    → ((m n : ℕ) → WordOf word m n → ⊥) → (f : Ratio) → IsLowest f → text ≢ frac_text f
no_word text word negative s no_minus none f low e = none (unsigned_abs f.over) f.under (spelled text word negative f s no_minus low e).word_of

no_minus : (negative : Bool) (m n : ℕ) → m < 2 ^ 127 → n < 2 ^ 127
    → IsTrue negative ⊎ ((rest : List ℕ) → cond negative (45 ∷ word_text m n) (word_text m n) ≢ 45 ∷ rest)
no_minus true m n h k = inl refl
no_minus false m n h k = inr (λ rest e. WordOf-unsigned rest m n (subst (λ w. WordOf w m n) e (WordOf-text m n h k)))

-- no two fractions have one text
pub frac_text_same : (a b : Ratio) → IsLowest a → IsLowest b → frac_text a ≡ frac_text b → a ≡ b
frac_text_same a b low low' e =
    let parts = has_parts a in
    let size : ℕ = unsigned_abs a.over in
    let word : List ℕ = word_text size a.under in
    let signed : IsSigned (frac_text a) parts.negative word = ap frac_text parts.is ∙ parts_text parts.negative size a.under parts.some in
    let apart : IsTrue parts.negative ⊎ ((rest : List ℕ) → frac_text a ≢ 45 ∷ rest) =
    subst (λ t. IsTrue parts.negative ⊎ ((rest : List ℕ) → t ≢ 45 ∷ rest)) (sym signed) (no_minus parts.negative size a.under low.over_fits low.under_fits) in
    let first = spelled (frac_text a) word parts.negative a signed apart low refl in
    let second = spelled (frac_text a) word parts.negative b signed apart low' e in
    let same = WordOf-unique word size a.under (unsigned_abs b.over) b.under first.word_of second.word_of in
    first.is ∙ ap (λ m. parts_ratio parts.negative m a.under) same.0 ∙ ap (λ n. parts_ratio parts.negative (unsigned_abs b.over) n) same.1 ∙ sym second.is
