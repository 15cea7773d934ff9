-- How reading goes on within a text between quotes.
use Rattle.std.proofs.Common.{◌≡◌, ℕ, zero, suc, ◌+◌, ◌-◌, ◌*◌, ◌^◌, ◌<◌, ◌≤◌, Bool, true, false, cond, ltb, List, [], ◌∷◌, ◌++◌, length, take, drop, get_or, Option, Some, None, refl, ap, ◌∙◌, sym, subst, arith, ◌==◌, ◌≢◌, eq-eqb, inl, inr, drop-cons, append_assoc, IsUtf8}
use Rattle.std.proofs.lemmas.Str.{IsUtf8-append, IsUtf8-encode, IsUtf8-nil, encode_ascii}
use lib.Utf8.{low_scalar}
use Rattle.std.proofs.lemmas.List.{take_more, length-drop, length-take, get_or-drop}
use Rattle.std.specs.Prelude.{nat_le, ◌&&◌, slice_range}
use Rattle.std.specs.Char.{is_digit, digit_value}
use Rattle.std.specs.Char.Utf16.{is_high_surrogate, is_low_surrogate}
use Rattle.std.proofs.lemmas.Bool.{cases_lt, le-ltb, lt-ltb, false_from_ne_true, eqb-true}
use Rattle.std.proofs.lemmas.Bool.Decides.{nat_tests}
use Rattle.std.proofs.lemmas.Nat.{pow-add}
use Rattle.std.proofs.Math.Nat.{pow-le-pow_right}
use Rattle.bt_json.specs.Grammar.{short_escape}
use Rattle.bt_json.specs.inner.Reading.{bad, Stop, step, Place, hex, tail, between, escape, InText, reads, no_text, with_unit, step_hex, flushed, lead_of, step_short, step_lead, behind_tail, step_between, in_text, finish_text, Role, Frame}
use Rattle.bt_json.specs.inner.Running.{rest_of, rest_after, Around, within, step_within, with_plain, after_plain, is_plain}
use Rattle.bt_json.proofs.Running.{rest_more, rest_end}

pub hex_grows : (u d i : ℕ) → i < 4 → u < 16 ^ i → d < 16 → (u * 16 + d < 16 ^ (i + 1)) × (u * 16 + d < 65536)
hex_grows u d i lt small below =
    let e : 16 ^ (i + 1) ≡ 16 ^ i * 16 = pow-add 16 i 1 in
    let le : i + 1 ≤ 4 = omega arith in
    let top : 16 ^ (i + 1) ≤ 16 ^ 4 = pow-le-pow_right {n = 16} (omega arith) le in
    (omega arith, omega arith)

chosen : (b : Bool) (x y : InText) (at : ℕ) (t : Around) → step_within at t x ≡ step_within 0 t x → step_within at t y ≡ step_within 0 t y → step_within at t (cond b x y) ≡ step_within 0 t (cond b x y)
chosen true x y at t p q = p
chosen false x y at t p q = q

-- a unit goes on alike wherever it stands
unit_anywhere : (at : ℕ) (t : Around) (out : List ℕ) (high : Option ℕ) (u : ℕ) → step_within at t (with_unit out high u) ≡ step_within 0 t (with_unit out high u)
unit_anywhere at t out None u = chosen (is_high_surrogate u) _ _ at t refl refl
unit_anywhere at t out (Some h) u = chosen (is_low_surrogate u) _ _ at t refl (chosen (is_high_surrogate u) _ _ at t refl refl)

hex_anywhere : (at : ℕ) (t : Around) (out : List ℕ) (high : Option ℕ) (left u : ℕ) → step_within at t (step_hex out high left u) ≡ step_within 0 t (step_hex out high left u)
hex_anywhere at t out high zero u = unit_anywhere at t out high u
hex_anywhere at t out high (suc left) u = refl

hex_goes_on : (bytes : List ℕ) (at : ℕ) (t : Around) (left u : ℕ) → at < length bytes → is_digit (get_or bytes at 0) 16 ≡ true
    → rest_of bytes at (within t (hex left u)) ≡ rest_after bytes (at + 1) (step_within 0 t (step_hex t.out t.high left (u * 16 + digit_value (get_or bytes at 0))))
unfolding step
hex_goes_on bytes at t left u lt e =
    rest_more bytes at (within t (hex left u)) lt
    ∙ ap (λ b. rest_after bytes (at + 1) (step_within at t (cond b (step_hex t.out t.high left (u * 16 + digit_value (get_or bytes at 0))) no_text))) e
    ∙ ap (rest_after bytes (at + 1)) (hex_anywhere at t t.out t.high left (u * 16 + digit_value (get_or bytes at 0)))

pub hex_breaks : (bytes : List ℕ) (at : ℕ) (t : Around) (left u : ℕ) → at < length bytes → is_digit (get_or bytes at 0) 16 ≡ false → rest_of bytes at (within t (hex left u)) ≡ bad at
unfolding step
hex_breaks bytes at t left u lt e =
    rest_more bytes at (within t (hex left u)) lt
    ∙ ap (λ b. rest_after bytes (at + 1) (step_within at t (cond b (step_hex t.out t.high left (u * 16 + digit_value (get_or bytes at 0))) no_text))) e

-- the bytes end within a text
pub text_cut : (bytes : List ℕ) (at : ℕ) (t : Around) (place : Place) → length bytes ≤ at → rest_of bytes at (within t place) ≡ bad at
text_cut bytes at t place le = rest_end bytes at (within t place) le

-- while digits are left, the step is a place before one
hex_left : (out : List ℕ) (high : Option ℕ) (i u : ℕ) → i < 4 → step_hex out high (4 - i) u ≡ reads out high (hex (3 - i) u)
hex_left out high i u lt = let e : 4 - i ≡ suc (3 - i) = omega arith in rw e refl

-- a loop over the four digits: before one, and behind it
pub hex_before : (bytes : List ℕ) (start i u : ℕ) (t : Around) (e : Stop) → i < 4 → e ≡ rest_after bytes (start + i) (step_within 0 t (step_hex t.out t.high (4 - i) u)) → e ≡ rest_of bytes (start + i) (within t (hex (3 - i) u))
hex_before bytes start i u t e lt so_far = so_far ∙ ap (λ x. rest_after bytes (start + i) (step_within 0 t x)) (hex_left t.out t.high i u lt)

pub hex_behind : (bytes : List ℕ) (start i u d : ℕ) (t : Around) (e : Stop) → i < 4 → start + i < length bytes → is_digit (get_or bytes (start + i) 0) 16 ≡ true → d ≡ digit_value (get_or bytes (start + i) 0)
    → e ≡ rest_after bytes (start + i) (step_within 0 t (step_hex t.out t.high (4 - i) u)) → e ≡ rest_after bytes (start + (i + 1)) (step_within 0 t (step_hex t.out t.high (4 - (i + 1)) (u * 16 + d)))
hex_behind bytes start i u d t e lt inside digit value so_far =
    let at : start + i + 1 ≡ start + (i + 1) = omega arith in
    let left : 3 - i ≡ 4 - (i + 1) = omega arith in
    hex_before bytes start i u t e lt so_far ∙ hex_goes_on bytes (start + i) t (3 - i) u inside digit
    ∙ ap (λ n. rest_after bytes n (step_within 0 t (step_hex t.out t.high (3 - i) (u * 16 + digit_value (get_or bytes (start + i) 0))))) at
    ∙ ap (λ n. rest_after bytes (start + (i + 1)) (step_within 0 t (step_hex t.out t.high n (u * 16 + digit_value (get_or bytes (start + i) 0))))) left
    ∙ ap (λ n. rest_after bytes (start + (i + 1)) (step_within 0 t (step_hex t.out t.high (4 - (i + 1)) (u * 16 + n)))) (sym value)

-- ---- characters that stand for themselves

not_byte : (b k : ℕ) → k < b → (b == k) ≡ false
not_byte b k lt = false_from_ne_true _ (λ e. let h = eqb-true b k e in omega arith)

-- a byte from 128 on begins a character of several bytes
pub step_wide : (out : List ℕ) (high : Option ℕ) (b : ℕ) → 128 ≤ b → step_between out high b ≡ step_lead (flushed out high) b (lead_of b)
step_wide out high b wide =
    let q : (b == 34) ≡ false = not_byte b 34 (omega arith) in
    let s : (b == 92) ≡ false = not_byte b 92 (omega arith) in
    let c : ltb b 32 ≡ false = le-ltb b 32 (omega arith) in
    let a : ltb b 128 ≡ false = le-ltb b 128 wide in
    rw (q, s, c, a) refl

pub lead_goes_on : (bytes : List ℕ) (at : ℕ) (t : Around) (place : Place) → at < length bytes → 128 ≤ get_or bytes at 0 → Some place ≡ lead_of (get_or bytes at 0)
    → rest_of bytes at (within t between) ≡ rest_of bytes (at + 1) (within (with_plain t (get_or bytes at 0 ∷ [])) place)
unfolding step
lead_goes_on bytes at t place lt wide e =
    rest_more bytes at (within t between) lt
    ∙ ap (λ i. rest_after bytes (at + 1) (step_within at t i)) (step_wide t.out t.high (get_or bytes at 0) wide)
    ∙ ap (λ p. rest_after bytes (at + 1) (step_within at t (step_lead (flushed t.out t.high) (get_or bytes at 0) p))) (sym e)

pub lead_breaks : (bytes : List ℕ) (at : ℕ) (t : Around) → at < length bytes → 128 ≤ get_or bytes at 0 → None ≡ lead_of (get_or bytes at 0) → rest_of bytes at (within t between) ≡ bad at
unfolding step
lead_breaks bytes at t lt wide e =
    rest_more bytes at (within t between) lt
    ∙ ap (λ i. rest_after bytes (at + 1) (step_within at t i)) (step_wide t.out t.high (get_or bytes at 0) wide)
    ∙ ap (λ p. rest_after bytes (at + 1) (step_within at t (step_lead (flushed t.out t.high) (get_or bytes at 0) p))) (sym e)

-- one byte more
abbrev with_byte : Around → ℕ → Around
with_byte t b = record t { out = t.out ++ b ∷ [] }

tail_goes_on : (bytes : List ℕ) (at : ℕ) (t : Around) (low top more : ℕ) → at < length bytes → low ≤ get_or bytes at 0 → get_or bytes at 0 ≤ top
    → rest_of bytes at (within t (tail low top more)) ≡ rest_of bytes (at + 1) (within (with_byte t (get_or bytes at 0)) (behind_tail more))
unfolding step
tail_goes_on bytes at t low top more lt l h =
    let test : (nat_le low (get_or bytes at 0) && nat_le (get_or bytes at 0) top) ≡ true = grind (arith, nat_tests) in
    rest_more bytes at (within t (tail low top more)) lt
    ∙ ap (λ b. rest_after bytes (at + 1) (step_within at t (cond b (reads (t.out ++ get_or bytes at 0 ∷ []) t.high (behind_tail more)) no_text))) test

pub tail_breaks : (bytes : List ℕ) (at : ℕ) (t : Around) (low top more : ℕ) → (at < length bytes → low ≤ get_or bytes at 0 → get_or bytes at 0 ≤ top → ⊥) → rest_of bytes at (within t (tail low top more)) ≡ bad at
unfolding step
tail_breaks bytes at t low top more outside = elim (cases_lt at (length bytes)) [
  | inl lt ↦
      let test : (nat_le low (get_or bytes at 0) && nat_le (get_or bytes at 0) top) ≡ false = grind (arith, nat_tests, outside lt) in
      rest_more bytes at (within t (tail low top more)) lt
      ∙ ap (λ b. rest_after bytes (at + 1) (step_within at t (cond b (reads (t.out ++ get_or bytes at 0 ∷ []) t.high (behind_tail more)) no_text))) test
  | inr le ↦ text_cut bytes at t (tail low top more) le
]

-- ---- characters of several bytes, whole

two_there : (bytes : List ℕ) (at : ℕ) → at + 1 < length bytes → drop at bytes ≡ get_or bytes at 0 ∷ get_or bytes (at + 1) 0 ∷ drop (at + 2) bytes
two_there bytes at lt =
    let l : at < length bytes = omega arith in
    let e : suc (at + 1) ≡ at + 2 = omega arith in
    let f : suc at ≡ at + 1 = omega arith in
    drop-cons bytes at 0 l ∙ ap (λ n. get_or bytes at 0 ∷ drop n bytes) f ∙ ap (λ l. get_or bytes at 0 ∷ l) (drop-cons bytes (at + 1) 0 lt) ∙ ap (λ n. get_or bytes at 0 ∷ get_or bytes (at + 1) 0 ∷ drop n bytes) e

pub two_at : (bytes : List ℕ) (at : ℕ) → at + 1 < length bytes → slice_range bytes at (at + 2) ≡ get_or bytes at 0 ∷ get_or bytes (at + 1) 0 ∷ []
two_at bytes at lt = let n : at + 2 - at ≡ 2 = omega arith in rw (n, two_there bytes at lt) refl

pub three_at : (bytes : List ℕ) (at : ℕ) → at + 2 < length bytes → slice_range bytes at (at + 3) ≡ get_or bytes at 0 ∷ get_or bytes (at + 1) 0 ∷ get_or bytes (at + 2) 0 ∷ []
three_at bytes at lt =
    let n : at + 3 - at ≡ 3 = omega arith in
    let l : at + 1 < length bytes = omega arith in
    rw (n, two_there bytes at l, drop-cons bytes (at + 2) 0) refl

pub four_at : (bytes : List ℕ) (at : ℕ) → at + 3 < length bytes → slice_range bytes at (at + 4) ≡ get_or bytes at 0 ∷ get_or bytes (at + 1) 0 ∷ get_or bytes (at + 2) 0 ∷ get_or bytes (at + 3) 0 ∷ []
four_at bytes at lt =
    let n : at + 4 - at ≡ 4 = omega arith in
    let l : at + 1 < length bytes = omega arith in
    let m : at + 2 + 1 < length bytes = omega arith in
    let same : at + 2 + 1 ≡ at + 3 = omega arith in
    rw (n, two_there bytes at l, two_there bytes (at + 2) m, same) refl

-- the first bytes of a character at a place
pub record Leads (bytes : List ℕ) (at low top more : ℕ) : Type 0 where
  pub within_bytes : at + 1 < length bytes
  pub wide : 128 ≤ get_or bytes at 0
  pub lead : Some (tail low top more) ≡ lead_of (get_or bytes at 0)
  pub lows : low ≤ get_or bytes (at + 1) 0
  pub tops : get_or bytes (at + 1) 0 ≤ top

regrouped : (t : Around) (plain : List ℕ) (b : ℕ) → with_byte (with_plain t plain) b ≡ with_plain t (plain ++ b ∷ [])
regrouped t plain b = ap (λ out. record t { out = out; high = None }) (append_assoc (flushed t.out t.high) plain (b ∷ []))

pub second_read : (bytes : List ℕ) (at low top more : ℕ) (t : Around) → Leads bytes at low top more
    → rest_of bytes at (within t between) ≡ rest_of bytes (at + 2) (within (with_plain t (get_or bytes at 0 ∷ get_or bytes (at + 1) 0 ∷ [])) (behind_tail more))
second_read bytes at low top more t l =
    let lt : at < length bytes = let w = l.within_bytes in omega arith in
    let n : at + 1 + 1 ≡ at + 2 = omega arith in
    lead_goes_on bytes at t (tail low top more) lt l.wide l.lead
    ∙ tail_goes_on bytes (at + 1) (with_plain t (get_or bytes at 0 ∷ [])) low top more l.within_bytes l.lows l.tops
    ∙ ap (λ m. rest_of bytes m (within (with_byte (with_plain t (get_or bytes at 0 ∷ [])) (get_or bytes (at + 1) 0)) (behind_tail more))) n
    ∙ ap (λ s. rest_of bytes (at + 2) (within s (behind_tail more))) (regrouped t (get_or bytes at 0 ∷ []) (get_or bytes (at + 1) 0))

pub third_read : (bytes : List ℕ) (at low top more : ℕ) (t : Around) → Leads bytes at low top (suc more) → at + 2 < length bytes → 128 ≤ get_or bytes (at + 2) 0 → get_or bytes (at + 2) 0 ≤ 191
    → rest_of bytes at (within t between) ≡ rest_of bytes (at + 3) (within (with_plain t (get_or bytes at 0 ∷ get_or bytes (at + 1) 0 ∷ get_or bytes (at + 2) 0 ∷ [])) (behind_tail more))
third_read bytes at low top more t l lt low' top' =
    let n : at + 2 + 1 ≡ at + 3 = omega arith in
    let front : List ℕ = get_or bytes at 0 ∷ get_or bytes (at + 1) 0 ∷ [] in
    second_read bytes at low top (suc more) t l
    ∙ tail_goes_on bytes (at + 2) (with_plain t front) 128 191 more lt low' top'
    ∙ ap (λ m. rest_of bytes m (within (with_byte (with_plain t front) (get_or bytes (at + 2) 0)) (behind_tail more))) n
    ∙ ap (λ s. rest_of bytes (at + 3) (within s (behind_tail more))) (regrouped t front (get_or bytes (at + 2) 0))

pub fourth_read : (bytes : List ℕ) (at low top more : ℕ) (t : Around) → Leads bytes at low top (suc (suc more)) → at + 2 < length bytes → 128 ≤ get_or bytes (at + 2) 0 → get_or bytes (at + 2) 0 ≤ 191
    → at + 3 < length bytes → 128 ≤ get_or bytes (at + 3) 0 → get_or bytes (at + 3) 0 ≤ 191
    → rest_of bytes at (within t between) ≡ rest_of bytes (at + 4) (within (with_plain t (get_or bytes at 0 ∷ get_or bytes (at + 1) 0 ∷ get_or bytes (at + 2) 0 ∷ get_or bytes (at + 3) 0 ∷ [])) (behind_tail more))
fourth_read bytes at low top more t l lt low' top' lt4 low4 top4 =
    let n : at + 3 + 1 ≡ at + 4 = omega arith in
    let front : List ℕ = get_or bytes at 0 ∷ get_or bytes (at + 1) 0 ∷ get_or bytes (at + 2) 0 ∷ [] in
    third_read bytes at low top (suc more) t l lt low' top'
    ∙ tail_goes_on bytes (at + 3) (with_plain t front) 128 191 more lt4 low4 top4
    ∙ ap (λ m. rest_of bytes m (within (with_byte (with_plain t front) (get_or bytes (at + 3) 0)) (behind_tail more))) n
    ∙ ap (λ s. rest_of bytes (at + 4) (within s (behind_tail more))) (regrouped t front (get_or bytes (at + 3) 0))

-- ---- characters of one byte

pub step_plain : (out : List ℕ) (high : Option ℕ) (b : ℕ) → is_plain b ≡ true → step_between out high b ≡ reads (flushed out high ++ b ∷ []) None between
step_plain out high b e =
    let q : (b == 34) ≡ false = grind (arith, nat_tests) in
    let s : (b == 92) ≡ false = grind (arith, nat_tests) in
    let c : ltb b 32 ≡ false = grind (arith, nat_tests) in
    let a : ltb b 128 ≡ true = grind (arith, nat_tests) in
    rw (q, s, c, a) refl

plain_ascii : (b : ℕ) → is_plain b ≡ true → b < 128
plain_ascii b e = grind (arith, nat_tests)

-- behind plain characters and one more
plain_more : (t : Around) (plain : List ℕ) (b : ℕ) → record (after_plain t plain) { out = flushed (after_plain t plain).out (after_plain t plain).high ++ b ∷ []; high = None } ≡ after_plain t (plain ++ b ∷ [])
plain_more t [] b = refl
plain_more t (a ∷ plain) b = regrouped t (a ∷ plain) b

slice_more : (bytes : List ℕ) (start at : ℕ) → start ≤ at → at < length bytes → slice_range bytes start (at + 1) ≡ slice_range bytes start at ++ get_or bytes at 0 ∷ []
slice_more bytes start at le lt =
    let n : at + 1 - start ≡ at - start + 1 = omega arith in
    let inside : at - start < length (drop start bytes) = simp length-drop (omega arith) in
    let place : start + (at - start) ≡ at = omega arith in
    rw n (take_more (drop start bytes) (at - start) 0 inside ∙ ap (λ b. take (at - start) (drop start bytes) ++ b ∷ []) (get_or-drop start bytes (at - start) 0 ∙ ap (λ m. get_or bytes m 0) place))

pub plain_goes_on : (bytes : List ℕ) (start at : ℕ) (t : Around) → start ≤ at → at < length bytes → is_plain (get_or bytes at 0) ≡ true
    → rest_of bytes start (within t between) ≡ rest_of bytes at (within (after_plain t (slice_range bytes start at)) between)
    → rest_of bytes start (within t between) ≡ rest_of bytes (at + 1) (within (after_plain t (slice_range bytes start (at + 1))) between)
unfolding step
plain_goes_on bytes start at t le lt plain so_far =
    let s : Around = after_plain t (slice_range bytes start at) in
    so_far ∙ rest_more bytes at (within s between) lt
    ∙ ap (λ i. rest_after bytes (at + 1) (step_within at s i)) (step_plain s.out s.high (get_or bytes at 0) plain)
    ∙ ap (λ u. rest_of bytes (at + 1) (within u between)) (plain_more t (slice_range bytes start at) (get_or bytes at 0) ∙ ap (after_plain t) (sym (slice_more bytes start at le lt)))

slice_none : (bytes : List ℕ) (at : ℕ) → slice_range bytes at at ≡ []
slice_none bytes at = let n : at - at ≡ 0 = omega arith in rw n refl

pub plain_begins : (bytes : List ℕ) (at : ℕ) (t : Around) → rest_of bytes at (within t between) ≡ rest_of bytes at (within (after_plain t (slice_range bytes at at)) between)
plain_begins bytes at t = ap (λ l. rest_of bytes at (within (after_plain t l) between)) (sym (slice_none bytes at))

pub utf8_more : (bytes : List ℕ) (start at : ℕ) → start ≤ at → at < length bytes → is_plain (get_or bytes at 0) ≡ true → IsUtf8 (slice_range bytes start at) → IsUtf8 (slice_range bytes start (at + 1))
utf8_more bytes start at le lt plain u =
    let b = plain_ascii (get_or bytes at 0) plain in
    let one : IsUtf8 (get_or bytes at 0 ∷ []) = subst IsUtf8 (encode_ascii (get_or bytes at 0) b) (IsUtf8-encode (get_or bytes at 0) (low_scalar (get_or bytes at 0) (omega arith))) in
    subst IsUtf8 (sym (slice_more bytes start at le lt)) (IsUtf8-append _ _ u one)

pub utf8_none : (bytes : List ℕ) (at : ℕ) → IsUtf8 (slice_range bytes at at)
utf8_none bytes at = subst IsUtf8 (sym (slice_none bytes at)) IsUtf8-nil

-- ---- escapes

pub escape_u : (bytes : List ℕ) (at : ℕ) (t : Around) → at < length bytes → get_or bytes at 0 ≡ 117 → rest_of bytes at (within t escape) ≡ rest_of bytes (at + 1) (within t (hex 3 0))
unfolding step
escape_u bytes at t lt e =
    rest_more bytes at (within t escape) lt
    ∙ ap (λ b. rest_after bytes (at + 1) (step_within at t (cond b (reads t.out t.high (hex 3 0)) (step_short t.out t.high (short_escape (get_or bytes at 0)))))) (eq-eqb _ _ e)

short_step : (bytes : List ℕ) (at : ℕ) (t : Around) (o : Option ℕ) → at < length bytes → get_or bytes at 0 ≢ 117 → o ≡ short_escape (get_or bytes at 0) → rest_of bytes at (within t escape) ≡ rest_after bytes (at + 1) (step_within at t (step_short t.out t.high o))
unfolding step
short_step bytes at t o lt ne e =
    rest_more bytes at (within t escape) lt
    ∙ ap (λ b. rest_after bytes (at + 1) (step_within at t (cond b (reads t.out t.high (hex 3 0)) (step_short t.out t.high (short_escape (get_or bytes at 0)))))) (false_from_ne_true _ (λ x. ne (eqb-true _ _ x)))
    ∙ ap (λ p. rest_after bytes (at + 1) (step_within at t (step_short t.out t.high p))) (sym e)

pub escape_short : (bytes : List ℕ) (at : ℕ) (t : Around) (u : ℕ) → at < length bytes → get_or bytes at 0 ≢ 117 → Some u ≡ short_escape (get_or bytes at 0)
    → rest_of bytes at (within t escape) ≡ rest_after bytes (at + 1) (step_within 0 t (with_unit t.out t.high u))
escape_short bytes at t u lt ne e = short_step bytes at t (Some u) lt ne e ∙ ap (rest_after bytes (at + 1)) (unit_anywhere at t t.out t.high u)

pub escape_breaks : (bytes : List ℕ) (at : ℕ) (t : Around) → at < length bytes → get_or bytes at 0 ≢ 117 → None ≡ short_escape (get_or bytes at 0) → rest_of bytes at (within t escape) ≡ bad at
escape_breaks bytes at t lt ne e = short_step bytes at t None lt ne e

-- a unit that was put in
pub unit_in : (bytes : List ℕ) (at : ℕ) (t : Around) (out : List ℕ) (high : Option ℕ) (x : InText) → reads out high between ≡ x → rest_after bytes at (step_within 0 t x) ≡ rest_of bytes at (in_text out high between t.role t.frames)
unit_in bytes at t out high x e = sym (ap (λ y. rest_after bytes at (step_within 0 t y)) e)

-- plain characters that were put in
pub plain_in : (bytes : List ℕ) (at : ℕ) (t : Around) (plain out : List ℕ) (high : Option ℕ) → (out ≡ flushed t.out t.high ++ plain) × (high ≡ None) → rest_of bytes at (within (with_plain t plain) between) ≡ rest_of bytes at (in_text out high between t.role t.frames)
plain_in bytes at t plain out high h = ap (λ o. rest_of bytes at (in_text o None between t.role t.frames)) (sym h.0) ∙ ap (λ g. rest_of bytes at (in_text out g between t.role t.frames)) (sym h.1)

pub some_plain : (bytes : List ℕ) (at : ℕ) (t : Around) (plain : List ℕ) → 0 < length plain → rest_of bytes at (within (after_plain t plain) between) ≡ rest_of bytes at (within (with_plain t plain) between)
some_plain bytes at t [] lt = absurd (omega arith)
some_plain bytes at t (b ∷ plain) lt = refl

pub slice_some : (bytes : List ℕ) (start end : ℕ) → start < end → end ≤ length bytes → 0 < length (slice_range bytes start end)
slice_some bytes start end lt le = simp (length-take, length-drop) (omega arith)

-- ---- the other bytes

pub control_breaks : (bytes : List ℕ) (at : ℕ) (t : Around) → at < length bytes → get_or bytes at 0 < 32 → rest_of bytes at (within t between) ≡ bad at
unfolding step
control_breaks bytes at t lt small =
    let b : ℕ = get_or bytes at 0 in
    let q : (b == 34) ≡ false = grind (arith, nat_tests) in
    let s : (b == 92) ≡ false = grind (arith, nat_tests) in
    let c : ltb b 32 ≡ true = lt-ltb b 32 small in
    let e : step_between t.out t.high b ≡ no_text = rw (q, s, c) refl in
    rest_more bytes at (within t between) lt ∙ ap (λ i. rest_after bytes (at + 1) (step_within at t i)) e

pub backslash : (bytes : List ℕ) (at : ℕ) (t : Around) → at < length bytes → get_or bytes at 0 ≡ 92 → rest_of bytes at (within t between) ≡ rest_of bytes (at + 1) (within t escape)
unfolding step
backslash bytes at t lt e =
    rest_more bytes at (within t between) lt ∙ ap (λ b. rest_after bytes (at + 1) (step_within at t (step_between t.out t.high b))) e

pub closing : (bytes : List ℕ) (at : ℕ) (t : Around) → at < length bytes → get_or bytes at 0 ≡ 34 → rest_of bytes at (within t between) ≡ rest_after bytes (at + 1) (finish_text true at (flushed t.out t.high) t.role t.frames)
unfolding step
closing bytes at t lt e =
    rest_more bytes at (within t between) lt ∙ ap (λ b. rest_after bytes (at + 1) (step_within at t (step_between t.out t.high b))) e

pub must_be_wide : (b : ℕ) → is_plain b ≡ false → b ≢ 34 → b ≢ 92 → 32 ≤ b → 128 ≤ b
must_be_wide b p q s c = grind (arith, nat_tests)

-- a text of such characters alone
pub closing_plain : (bytes : List ℕ) (at : ℕ) (role : Role) (k : List Frame) (plain : List ℕ) → at < length bytes → get_or bytes at 0 ≡ 34
    → rest_of bytes at (within (after_plain (record { out = []; high = None; role = role; frames = k }) plain) between) ≡ rest_after bytes (at + 1) (finish_text true at plain role k)
closing_plain bytes at role k [] lt quote = closing bytes at (record { out = []; high = None; role = role; frames = k }) lt quote
closing_plain bytes at role k (b ∷ plain) lt quote = closing bytes at (record { out = b ∷ plain; high = None; role = role; frames = k }) lt quote
