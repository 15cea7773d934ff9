-- What a numeral is: the one word for its number.
use Rattle.std.proofs.Common.{◌≡◌, ◌≢◌, ℕ, ◌+◌, ◌*◌, ◌^◌, ◌<◌, ◌≤◌, ◌/◌, ◌%◌, List, [], ◌∷◌, ◌++◌, length, get_or, refl, sym, ◌∙◌, ap, arith, length-append}
use Rattle.std.specs.Char.{digit_value}
use Rattle.std.specs.Fmt.{decimal}
use Rattle.std.specs.Int.{IsInRange}
use Rattle.std.specs.Str.Parse.{AllDigits, digits_value, digits_value_after}
use Rattle.std.proofs.lemmas.Fmt.{decimal_digit, decimal_step_wide, decimal_by_steps_wide, decimal_is_IsNumeral_wide}
use Rattle.std.proofs.lemmas.List.{append-nil, append_assoc, get_or_append_left}
use Rattle.std.proofs.lemmas.List.Elements.{All-from_get_or}
use Rattle.std.proofs.lemmas.Str.{digit_value_digit}
use Rattle.std.proofs.lemmas.Str.Parse.{digit_at, digit_from_value}
use Rattle.std.specs.List.{All}
use Rattle.bt_frac.specs.Numbers.{Spells}

-- a first digit 0 stands only in `0`
leads : (n : ℕ) → n < 10 ^ 64 → (0 < length (decimal n)) × (0 < n → 48 < get_or (decimal n) 0 0) × (n ≡ 0 → length (decimal n) ≡ 1)
leads = decimal_by_steps_wide (λ m ds. (0 < length ds) × (0 < m → 48 < get_or ds 0 0) × (m ≡ 0 → length ds ≡ 1))
    (λ m l. (omega arith, λ a. omega arith, λ a. refl))
    (λ m ds l h. (omega (arith, length-append ds ((48 + m % 10) ∷ [])), λ a. omega (arith, get_or_append_left ds ((48 + m % 10) ∷ []) 0 0 h.0, h.1 (omega arith)), λ a. omega arith))

no_zero_from : (n : ℕ) (ds : List ℕ) → (0 < n → 48 < get_or ds 0 0) → (n ≡ 0 → length ds ≡ 1) → get_or ds 0 0 ≡ 48 → length ds ≡ 1
no_zero_from n ds some none zero = grind (arith, some, none)

-- what is written of a number spells it
pub Spells-decimal : (n : ℕ) → n < 10 ^ 64 → Spells (decimal n) n
Spells-decimal n small =
    let numeral = decimal_is_IsNumeral_wide n small in
    let lead = leads n small in
    record { some_digit = lead.0; digits = numeral.0.1; no_zero = λ zero. no_zero_from n (decimal n) lead.1 lead.2 zero; value = numeral.1 }

-- a word spells one number
pub Spells-unique : {w : List ℕ} {m n : ℕ} → Spells w m → Spells w n → m ≡ n
Spells-unique a b = sym a.value ∙ b.value

-- a byte that is no digit stands in no numeral
pub Spells-lacks : (w : List ℕ) (n byte : ℕ) → Spells w n → ¬ IsInRange 48 57 byte → All (λ other. other ≢ byte) w
Spells-lacks w n byte s apart = All-from_get_or (λ other. other ≢ byte) w 0 (λ k inside e. apart (rw e at (digit_at w k s.digits inside)))

-- more digits after those of a number that isn't 0
le_value_after : (n : ℕ) (ds : List ℕ) → n ≤ digits_value_after 10 n ds
le_value_after n [] = omega arith
le_value_after n (c ∷ cs) = omega (arith, le_value_after (n * 10 + digit_value c) cs)

decimal_value_after : (n : ℕ) (ds : List ℕ) → 0 < n → AllDigits 10 ds → digits_value_after 10 n ds < 10 ^ 64 → decimal (digits_value_after 10 n ds) ≡ decimal n ++ ds
decimal_value_after n [] some d small = sym (append-nil (decimal n))
decimal_value_after n (c ∷ cs) some d small =
    let m : ℕ = n * 10 + digit_value c in
    let k = digit_value_digit c (digit_from_value c d.0) in
    let front : m / 10 ≡ n = omega (arith, d.0) in
    let end : 48 + m % 10 ≡ c = omega (arith, d.0) in
    decimal_value_after m cs (omega arith) d.1 small
    ∙ ap (λ x. x ++ cs) (decimal_step_wide m (omega arith) (omega (arith, le_value_after m cs)) ∙ (λ i. decimal (front i) ++ (end i ∷ [])))
    ∙ append_assoc (decimal n) (c ∷ []) cs

decimal_value : (ds : List ℕ) → AllDigits 10 ds → 0 < length ds → (get_or ds 0 0 ≡ 48 → length ds ≡ 1) → digits_value 10 ds < 10 ^ 64 → decimal (digits_value 10 ds) ≡ ds
decimal_value [] d some lead small = absurd (omega arith)
decimal_value (c ∷ []) d some lead small =
    let k = digit_value_digit c (digit_from_value c d.0) in
    decimal_digit (0 * 10 + digit_value c) (omega (arith, d.0)) ∙ ap (λ x. x ∷ []) (omega arith)
decimal_value (c ∷ e ∷ cs) d some lead small =
    let k = digit_value_digit c (digit_from_value c d.0) in
    let other : c ≡ 48 → ⊥ = λ z. omega (arith, lead z) in
    let is : 48 + (0 * 10 + digit_value c) ≡ c = omega arith in
    decimal_value_after (0 * 10 + digit_value c) (e ∷ cs) (omega arith) d.1 small
    ∙ ap (λ x. x ++ (e ∷ cs)) (decimal_digit (0 * 10 + digit_value c) (omega (arith, d.0)) ∙ ap (λ x. x ∷ []) is)

-- the one word that spells a number is what is written of it
pub decimal-from_spells : (w : List ℕ) (n : ℕ) → Spells w n → n < 10 ^ 64 → w ≡ decimal n
decimal-from_spells w n s small = sym (decimal_value w s.digits s.some_digit s.no_zero (omega (arith, s.value))) ∙ ap decimal s.value

-- no space, no line feed and no other byte that is no digit in what is written of a number
pub decimal-lacks : (n byte : ℕ) → n < 10 ^ 64 → ¬ IsInRange 48 57 byte → All (λ other. other ≢ byte) (decimal n)
decimal-lacks n byte small apart = Spells-lacks (decimal n) n byte (Spells-decimal n small) apart

-- each number has a writing of its own
pub decimal_apart : (m n : ℕ) → m < 10 ^ 64 → n < 10 ^ 64 → decimal m ≡ decimal n → m ≡ n
decimal_apart m n p q e = sym (Spells-decimal m p).value ∙ ap (digits_value 10) e ∙ (Spells-decimal n q).value
