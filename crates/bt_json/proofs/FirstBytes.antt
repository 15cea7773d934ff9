-- The first byte of a value.
use Rattle.std.proofs.Common.{◌≡◌, ℕ, ◌+◌, ◌<◌, Bool, true, false, List, [], ◌∷◌, ◌++◌, map, refl, ◌∙◌, ap, arith}
use Rattle.std.specs.Prelude.{codes}
use Rattle.std.proofs.lemmas.Bool.Decides.{nat_tests}
use Rattle.bt_json.specs.Json.{Json, null, boolean, number, text, list, object, no_items, item, no_members, member}
use Rattle.bt_json.specs.Grammar.{Texts, ◌▸◌, Byte, Sign, Whole, Fraction, Exponent, IsValue, is_blank}
use Rattle.bt_json.specs.Longer.{EndsAnyhow}

-- the first byte of a value's text: it is no blank, and where it is a brace the value ends whatever follows
pub record BeginsValue (v : Json) (t : List ℕ) : Type 0 where
  pub byte : ℕ
  pub rest : List ℕ
  pub text_is : t ≡ byte ∷ rest
  pub no_blank : is_blank byte ≡ false
  pub ends : byte ≡ 123 → EndsAnyhow v

-- a text that begins with this byte
begun_by : (v : Json) (byte : ℕ) (Behind : Texts) (t : List ℕ) → (Byte byte ▸ Behind) t → is_blank byte ≡ false → EndsAnyhow v → BeginsValue v t
begun_by v byte Behind t j other ends = record { byte = byte; rest = j.back; text_is = j.whole ∙ ap (λ x. x ++ j.back) j.first; no_blank = other; ends = λ e. ends }

word_begins : (v : Json) (byte : ℕ) (rest t : List ℕ) → t ≡ byte ∷ rest → is_blank byte ≡ false → EndsAnyhow v → BeginsValue v t
word_begins v byte rest t e other ends = record { byte = byte; rest = rest; text_is = e; no_blank = other; ends = λ same. ends }

-- a digit is no blank
digit_no_blank : (d : ℕ) → d < 10 → is_blank (d + 48) ≡ false
digit_no_blank d small = grind (arith, nat_tests)

digit_begins : (v : Json) (d : ℕ) (ds front t : List ℕ) (behind : List ℕ) → d < 10 → front ≡ map (λ x. x + 48) (d ∷ ds) → t ≡ front ++ behind → BeginsValue v t
digit_begins v d ds front t behind small is e = record {
  byte = d + 48;
  rest = map (λ x. x + 48) ds ++ behind;
  text_is = e ∙ ap (λ x. x ++ behind) is;
  no_blank = digit_no_blank d small;
  ends = λ same. absurd (omega (arith, same, small));
}

whole_begins : (v : Json) (ds front t behind : List ℕ) → Whole ds front → t ≡ front ++ behind → BeginsValue v t
whole_begins v [] front t behind w e = absurd w
whole_begins v (d ∷ []) front t behind w e = digit_begins v d [] front t behind w.0.0 w.1 e
whole_begins v (d ∷ c ∷ ds) front t behind w e = digit_begins v d (c ∷ ds) front t behind w.1.0.0 w.1.1 e

number_begins : (v : Json) (negative : Bool) (whole fraction : List ℕ) (Behind : Texts) (t : List ℕ) → (Sign negative ▸ Whole whole ▸ Behind) t → BeginsValue v t
number_begins v true whole fraction Behind t j = record {
  byte = 45;
  rest = j.back;
  text_is = j.whole ∙ ap (λ x. x ++ j.back) j.first;
  no_blank = refl;
  ends = λ same. absurd (omega (arith, same));
}
number_begins v false whole fraction Behind t j =
    whole_begins v whole j.second.front t j.second.back j.second.first (j.whole ∙ ap (λ x. x ++ j.back) j.first ∙ j.second.whole)

-- how each value's text begins
pub value_begins : (v : Json) (t : List ℕ) → IsValue v t → BeginsValue v t
value_begins null t is = word_begins null 110 (codes "ull") t is refl (λ rest. tt)
value_begins (boolean true) t is = word_begins (boolean true) 116 (codes "rue") t is refl (λ rest. tt)
value_begins (boolean false) t is = word_begins (boolean false) 102 (codes "alse") t is refl (λ rest. tt)
value_begins (number n) t is = number_begins (number n) n.negative is.whole is.fraction (Fraction is.fraction ▸ Exponent is.below is.power) t is.spelled
value_begins (text bytes) t is = begun_by (text bytes) 34 _ t is.spelled refl (λ rest. tt)
value_begins (list no_items) t is = begun_by (list no_items) 91 _ t is refl (λ rest. tt)
value_begins (list (item v rest)) t is = begun_by (list (item v rest)) 91 _ t is refl (λ rest. tt)
value_begins (object no_members) t is = begun_by (object no_members) 123 _ t is refl (λ rest. tt)
value_begins (object (member n v rest)) t is = begun_by (object (member n v rest)) 123 _ t is refl (λ rest. tt)
