-- JSON text without blanks: texts of plain characters, numbers, and lists and objects of what has such text.
use Rattle.std.proofs.Common.{◌≡◌, ℕ, ◌+◌, ◌*◌, ◌<◌, ◌≤◌, Bool, true, false, not, ◌&&◌, List, [], ◌∷◌, ◌++◌, length, map, refl, sym, subst, arith}
use Rattle.std.specs.Prelude.{nat_le, nat_lt, ◌==◌, pos, ◌-ℤ◌, min}
use Rattle.std.proofs.lemmas.Bool.{false≢true}
use Rattle.std.proofs.lemmas.Bool.Decides.{nat_tests}
use Rattle.bt_json.specs.Value.{signed}
use Rattle.bt_json.proofs.Characters.{scalar_low}
use Rattle.std.specs.List.{list_all, AllByRecursion}
use Rattle.std.specs.Char.{digit_value, encode_utf8}
use Rattle.std.specs.Str.Parse.{AllDigits, digits_value_after}
use Rattle.std.specs.Int.Digits.{number_from_digits, number_from_digits_after}
use Rattle.std.proofs.lemmas.Str.{digit_value_digit, encode_ascii}
use Rattle.std.proofs.lemmas.Str.Parse.{digit_from_value}
use Rattle.std.proofs.lemmas.List.{append-nil}
use Rattle.bt_frac.specs.Numbers.{Spells}
use Rattle.bt_json.specs.declared.limits.TheConstants.{MOST_EXPONENT}
use Rattle.bt_json.specs.Json.{Number, Json, list, object, Items, no_items, item, Members, no_members, member}
use Rattle.bt_json.specs.Grammar.{◌▸◌, Digits, Sign, Whole, Fraction, Exponent, IsNumber, plain, Pieces, text_of, IsText, IsValue, MoreItems, MoreMembers}
use Rattle.bt_json.proofs.Joins.{join}

-- ---- texts

-- a character that stands for itself in one byte
abbrev pub is_simple : ℕ → Bool
is_simple c = nat_le 32 c && nat_lt c 128 && not (c == 34) && not (c == 92)

at_least : (c : ℕ) → is_simple c ≡ true → 32 ≤ c
at_least c is = grind (arith, nat_tests)

ascii : (c : ℕ) → is_simple c ≡ true → c < 128
ascii c is = grind (arith, nat_tests)

no_quote : (c : ℕ) → is_simple c ≡ true → c ≡ 34 → ⊥
no_quote c is e = grind (arith, nat_tests)

no_backslash : (c : ℕ) → is_simple c ≡ true → c ≡ 92 → ⊥
no_backslash c is e = grind (arith, nat_tests)

-- simple characters are their own pieces
simple_pieces : (cs : List ℕ) → list_all is_simple cs ≡ true → Pieces (map plain cs) cs × (text_of (map plain cs) ≡ cs)
simple_pieces [] is = (refl, refl)
simple_pieces (c ∷ cs) is =
    let here = both_true (is_simple c) (list_all is_simple cs) is in
    let bytes : encode_utf8 c ≡ c ∷ [] = encode_ascii c (ascii c here.0) in
    let on = simple_pieces cs here.1 in (
      join (c ∷ []) cs (scalar_low c (omega (arith, ascii c here.0)), at_least c here.0, no_quote c here.0, no_backslash c here.0, sym bytes) on.0,
      (λ i. bytes i ++ on.1 i),
    )
  where
    both_true : (a b : Bool) → (a && b) ≡ true → (a ≡ true) × (b ≡ true)
    both_true true b e = (refl, e)
    both_true false b e = absurd (false≢true e)

-- between quotes
abbrev pub quoted : List ℕ → List ℕ
quoted cs = 34 ∷ (cs ++ 34 ∷ [])

pub simple_text : (cs : List ℕ) → list_all is_simple cs ≡ true → IsText cs (quoted cs)
simple_text cs is =
    let pieces = simple_pieces cs is in
    record { pieces = map plain cs; spelled = join (34 ∷ []) (cs ++ 34 ∷ []) refl (join cs (34 ∷ []) pieces.0 refl); value = sym pieces.1 }

-- ---- numbers

-- the digits of a numeral
abbrev pub values : List ℕ → List ℕ
values w = map digit_value w

values_back : (w : List ℕ) → AllDigits 10 w → map (λ d. d + 48) (values w) ≡ w
values_back [] d = refl
values_back (c ∷ cs) d =
    let here : digit_value c + 48 ≡ c = digit_value_digit c (digit_from_value c d.0) in
    let on = values_back cs d.1 in
    (λ i. here i ∷ on i)

all_digits : (w : List ℕ) → AllDigits 10 w → AllByRecursion (λ d. d < 10) (values w)
all_digits [] d = tt
all_digits (c ∷ cs) d = (d.0, all_digits cs d.1)

pub value_after : (n : ℕ) (w : List ℕ) → number_from_digits_after 10 n (values w) ≡ digits_value_after 10 n w
value_after n [] = refl
value_after n (c ∷ cs) = value_after (n * 10 + digit_value c) cs

numeral_digits : (w : List ℕ) → AllDigits 10 w → Digits (values w) w
numeral_digits w d = (all_digits w d, sym (values_back w d))

numeral_whole : (w : List ℕ) (n : ℕ) → Spells w n → Whole (values w) w
numeral_whole [] n s = absurd (omega (arith, s.some_digit))
numeral_whole (c ∷ []) n s = numeral_digits (c ∷ []) s.digits
numeral_whole (c ∷ e ∷ cs) n s = (
  λ zero. let first : c ≡ 48 = omega (arith, zero, digit_value_digit c (digit_from_value c s.digits.0)) in omega (arith, s.no_zero first),
  numeral_digits (c ∷ e ∷ cs) s.digits,
)

-- a number by its sign, its whole part and the digits of its fraction
abbrev pub number_by : Bool → List ℕ → List ℕ → Number
number_by negative whole fraction = record { negative = negative; digits = values whole ++ fraction; exponent = signed false (min (number_from_digits 10 []) MOST_EXPONENT) -ℤ pos (length fraction) }

pub number_spelled : (negative : Bool) (whole : List ℕ) (n : ℕ) (fraction sign tail : List ℕ) → Spells whole n → Sign negative sign → Fraction fraction tail
    → IsNumber (number_by negative whole fraction) (sign ++ (whole ++ tail))
number_spelled negative whole n fraction sign tail s is_sign is_fraction = record {
  whole = values whole;
  fraction = fraction;
  below = false;
  power = [];
  spelled = join sign (whole ++ tail) is_sign (join whole tail (numeral_whole whole n s) (subst (λ t. (Fraction fraction ▸ Exponent false []) t) (append-nil tail) (join tail [] is_fraction (refl, refl))));
  digits = refl;
  exponent = refl;
}

-- ---- lists and objects

pub no_more_members : MoreMembers no_members (125 ∷ [])
no_more_members = join [] (125 ∷ []) tt refl

pub more_member : (n : List ℕ) (v : Json) (rest : Members) (nt vt mt : List ℕ) → IsText n nt → IsValue v vt → MoreMembers rest mt → MoreMembers (member n v rest) (44 ∷ (nt ++ 58 ∷ (vt ++ mt)))
more_member n v rest nt vt mt is_name is_value more =
    join [] (44 ∷ (nt ++ 58 ∷ (vt ++ mt))) tt (join (44 ∷ []) (nt ++ 58 ∷ (vt ++ mt)) refl (join [] (nt ++ 58 ∷ (vt ++ mt)) tt (join nt (58 ∷ (vt ++ mt)) is_name
    (join [] (58 ∷ (vt ++ mt)) tt (join (58 ∷ []) (vt ++ mt) refl (join [] (vt ++ mt) tt (join vt mt is_value more)))))))

pub first_member : (n : List ℕ) (v : Json) (rest : Members) (nt vt mt : List ℕ) → IsText n nt → IsValue v vt → MoreMembers rest mt → IsValue (object (member n v rest)) (123 ∷ (nt ++ 58 ∷ (vt ++ mt)))
first_member n v rest nt vt mt is_name is_value more =
    join (123 ∷ []) (nt ++ 58 ∷ (vt ++ mt)) refl (join [] (nt ++ 58 ∷ (vt ++ mt)) tt (join nt (58 ∷ (vt ++ mt)) is_name
    (join [] (58 ∷ (vt ++ mt)) tt (join (58 ∷ []) (vt ++ mt) refl (join [] (vt ++ mt) tt (join vt mt is_value more))))))

pub no_more_items : MoreItems no_items (93 ∷ [])
no_more_items = join [] (93 ∷ []) tt refl

pub more_item : (v : Json) (rest : Items) (vt mt : List ℕ) → IsValue v vt → MoreItems rest mt → MoreItems (item v rest) (44 ∷ (vt ++ mt))
more_item v rest vt mt is_value more = join [] (44 ∷ (vt ++ mt)) tt (join (44 ∷ []) (vt ++ mt) refl (join [] (vt ++ mt) tt (join vt mt is_value more)))

pub first_item : (v : Json) (rest : Items) (vt mt : List ℕ) → IsValue v vt → MoreItems rest mt → IsValue (list (item v rest)) (91 ∷ (vt ++ mt))
first_item v rest vt mt is_value more = join (91 ∷ []) (vt ++ mt) refl (join [] (vt ++ mt) tt (join vt mt is_value more))

pub empty_list : IsValue (list no_items) (91 ∷ 93 ∷ [])
empty_list = join (91 ∷ []) (93 ∷ []) refl (join [] (93 ∷ []) tt refl)
