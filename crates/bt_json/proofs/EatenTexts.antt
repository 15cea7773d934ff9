-- Reading over a text between quotes that the grammar writes.
use Rattle.std.proofs.Common.{◌≡◌, ℕ, suc, ◌+◌, ◌-◌, ◌*◌, ◌/◌, ◌%◌, ◌<◌, ◌≤◌, Bool, true, false, cond, List, [], ◌∷◌, ◌++◌, Option, Some, None, refl, ap, ap₂, ◌∙◌, sym, subst, arith, append_assoc, ◌==◌, ◌≢◌, inl, inr, ⊎_elim}
use Rattle.std.specs.Prelude.{◌&&◌, nat_le}
use Rattle.std.specs.Char.{IsScalar, encode_utf8, is_digit, digit_value}
use Rattle.std.specs.Char.Utf16.{is_high_surrogate, is_low_surrogate, surrogate_pair_char}
use Rattle.std.proofs.lemmas.List.{append-nil}
use Rattle.std.proofs.lemmas.Bool.{cases_lt, cases_eq, false_from_ne_true, eqb-true}
use Rattle.std.proofs.lemmas.Bool.Decides.{nat_tests}
use Rattle.std.proofs.lemmas.Str.{encode_ascii}
use lib.Utf8.{scalar_cases}
use Rattle.bt_json.specs.Grammar.{Joined, Byte, Piece, plain, unit, IsPiece, IsHexEscape, Pieces, text_of, alone, short_escape}
use Rattle.bt_json.specs.inner.Reading.{State, go, step, Frame, Role, Place, between, escape, hex, tail, reads, no_text, in_text, flushed, with_unit, lead_of, behind_tail, step_lead, step_short, step_text, step_in_text, finish_text}
use Rattle.bt_json.specs.inner.Running.{is_plain}
use Rattle.bt_json.proofs.Characters.{encode_two, encode_three, encode_four}
use Rattle.bt_json.proofs.Texts.{step_plain, step_wide}
use Rattle.bt_json.proofs.Eating.{Eats, eats_byte, eats_then, eats_none, eats_same, Anything}

-- within a text, one byte
pub eats_within : (strict : Bool) (out o : List ℕ) (high h : Option ℕ) (place p : Place) (role : Role) (k : List Frame) (b : ℕ) → step_text out high place b ≡ reads o h p → Eats strict (in_text out high place role k) (b ∷ []) (λ n. go (in_text o h p role k)) Anything
unfolding step
eats_within strict out o high h place p role k b e = eats_byte strict (in_text out high place role k) b (λ n. go (in_text o h p role k)) (λ at. ap (step_in_text strict at role k) e)

-- ---- characters that stand for themselves

pub tail_step : (out : List ℕ) (high : Option ℕ) (low top more b : ℕ) → low ≤ b → b ≤ top → step_text out high (tail low top more) b ≡ reads (out ++ b ∷ []) high (behind_tail more)
tail_step out high low top more b l t =
    let e : (nat_le low b && nat_le b top) ≡ true = grind (arith, nat_tests) in
    ap (λ x. cond x (reads (out ++ b ∷ []) high (behind_tail more)) no_text) e

lead_step : (out : List ℕ) (high : Option ℕ) (place : Place) (b : ℕ) → 128 ≤ b → lead_of b ≡ Some place → step_text out high between b ≡ reads (flushed out high ++ b ∷ []) None place
lead_step out high place b wide e = step_wide out high b wide ∙ ap (step_lead (flushed out high) b) e

-- the first two bytes of a character
pub record Opens (a b more : ℕ) : Type 0 where
  pub low : ℕ
  pub top : ℕ
  pub wide : 128 ≤ a
  pub lead : lead_of a ≡ Some (tail low top more)
  pub lows : low ≤ b
  pub tops : b ≤ top

two_opens : (a b : ℕ) → 194 ≤ a → a < 224 → 128 ≤ b → b ≤ 191 → Opens a b 0
unfolding lead_of
two_opens a b l t lb tb = record { low = 128; top = 191; wide = omega arith; lead = grind (arith, nat_tests); lows = lb; tops = tb }

three_opens : (a b : ℕ) → 224 ≤ a → a < 240 → 128 ≤ b → b ≤ 191 → (a ≡ 224 → 160 ≤ b) → (a ≡ 237 → b ≤ 159) → Opens a b 1
unfolding lead_of
three_opens a b l t lb tb long surrogate =
    elim (cases_eq a 224) [
      | inl e ↦ record { low = 160; top = 191; wide = omega arith; lead = ap lead_of e; lows = long e; tops = tb }
      | inr ne ↦ elim (cases_eq a 237) [
        | inl e ↦ record { low = 128; top = 159; wide = omega arith; lead = ap lead_of e; lows = lb; tops = surrogate e }
        | inr apart ↦ record { low = 128; top = 191; wide = omega arith; lead = other a l t ne apart; lows = lb; tops = tb }
      ]
    ]
  where
    other : (x : ℕ) → 224 ≤ x → x < 240 → x ≢ 224 → x ≢ 237 → lead_of x ≡ Some (tail 128 191 1)
    other x p q r s = grind (arith, nat_tests)

four_opens : (a b : ℕ) → 240 ≤ a → a < 245 → 128 ≤ b → b ≤ 191 → (a ≡ 240 → 144 ≤ b) → (a ≡ 244 → b ≤ 143) → Opens a b 2
unfolding lead_of
four_opens a b l t lb tb long last =
    elim (cases_eq a 240) [
      | inl e ↦ record { low = 144; top = 191; wide = omega arith; lead = ap lead_of e; lows = long e; tops = tb }
      | inr ne ↦ elim (cases_eq a 244) [
        | inl e ↦ record { low = 128; top = 143; wide = omega arith; lead = ap lead_of e; lows = lb; tops = last e }
        | inr apart ↦ record { low = 128; top = 191; wide = omega arith; lead = other a l t ne apart; lows = lb; tops = tb }
      ]
    ]
  where
    other : (x : ℕ) → 240 ≤ x → x < 245 → x ≢ 240 → x ≢ 244 → lead_of x ≡ Some (tail 128 191 2)
    other x p q r s = grind (arith, nat_tests)

module _ (strict : Bool) (role : Role) (k : List Frame) where
  -- a text state
  abbrev at_place : List ℕ → Option ℕ → Place → State
  at_place out high place = in_text out high place role k

  -- from a text and a high surrogate on, these characters are put behind
  abbrev pub PutsIn : List ℕ → Option ℕ → List ℕ → Type 0
  PutsIn out high t = Eats strict (at_place out high between) t (λ n. go (at_place (flushed out high ++ t) None between)) Anything

  regroup : (out : List ℕ) (high : Option ℕ) (t u : List ℕ) (place p : Place) (s : State) → Eats strict s u (λ n. go (at_place ((flushed out high ++ t) ++ u) None p)) Anything → Eats strict s u (λ n. go (at_place (flushed out high ++ (t ++ u)) None p)) Anything
  regroup out high t u place p s e = subst (λ (x : List ℕ). Eats strict s u (λ n. go (at_place x None p)) Anything) (append_assoc (flushed out high) t u) e

  opened : (out : List ℕ) (high : Option ℕ) (a b more : ℕ) → Opens a b more → Eats strict (at_place out high between) (a ∷ b ∷ []) (λ n. go (at_place (flushed out high ++ a ∷ b ∷ []) None (behind_tail more))) Anything
  opened out high a b more o =
      eats_then strict (at_place out high between) (at_place (flushed out high ++ a ∷ []) None (tail o.low o.top more)) (a ∷ []) (b ∷ []) _ Anything
      (eats_within strict out (flushed out high ++ a ∷ []) high None between (tail o.low o.top more) role k a (lead_step out high (tail o.low o.top more) a o.wide o.lead))
      (regroup out high (a ∷ []) (b ∷ []) between (behind_tail more) _ (eats_within strict (flushed out high ++ a ∷ []) ((flushed out high ++ a ∷ []) ++ b ∷ []) None None (tail o.low o.top more) (behind_tail more) role k b (tail_step (flushed out high ++ a ∷ []) None o.low o.top more b o.lows o.tops)))

  one_more : (out : List ℕ) (high : Option ℕ) (t : List ℕ) (b more : ℕ) → 128 ≤ b → b ≤ 191 → Eats strict (at_place out high between) t (λ n. go (at_place (flushed out high ++ t) None (tail 128 191 more))) Anything
      → Eats strict (at_place out high between) (t ++ b ∷ []) (λ n. go (at_place (flushed out high ++ (t ++ b ∷ [])) None (behind_tail more))) Anything
  one_more out high t b more l h e =
      eats_then strict (at_place out high between) (at_place (flushed out high ++ t) None (tail 128 191 more)) t (b ∷ []) _ Anything e
      (regroup out high t (b ∷ []) between (behind_tail more) _ (eats_within strict (flushed out high ++ t) ((flushed out high ++ t) ++ b ∷ []) None None (tail 128 191 more) (behind_tail more) role k b (tail_step (flushed out high ++ t) None 128 191 more b l h)))

  puts_plain : (out : List ℕ) (high : Option ℕ) (c : ℕ) → IsScalar c → 32 ≤ c → c ≢ 34 → c ≢ 92 → PutsIn out high (encode_utf8 c)
  puts_plain out high c sc lo q s = elim (cases_lt c 128) [
    | inl ascii ↦
        let p : is_plain c ≡ true = grind (arith, nat_tests) in
        subst (PutsIn out high) (sym (encode_ascii c ascii)) (eats_within strict out (flushed out high ++ c ∷ []) high None between between role k c (step_plain out high c p))
    | inr wide ↦ elim (cases_lt c 2048) [
      | inl two ↦ subst (PutsIn out high) (sym (encode_two c wide two)) (opened out high (192 + c / 64) (128 + c % 64) 0 (two_opens (192 + c / 64) (128 + c % 64) (omega arith) (omega arith) (omega arith) (omega arith)))
      | inr more ↦ elim (cases_lt c 65536) [
        | inl three ↦
            let low : ¬ ((55296 ≤ c) × (c < 57344)) = λ h. ⊎_elim (λ a. omega arith) (λ a. let b = a.0 in omega arith) (scalar_cases c sc) in
            let long : 224 + c / 4096 ≡ 224 → 160 ≤ 128 + c / 64 % 64 = λ e. let z : c / 4096 ≡ 0 = omega arith in omega arith in
            let surrogate : 224 + c / 4096 ≡ 237 → 128 + c / 64 % 64 ≤ 159 = λ e. let z : c / 4096 ≡ 13 = omega arith in not_surrogate c z low in
            subst (PutsIn out high) (sym (encode_three c more three))
            (one_more out high ((224 + c / 4096) ∷ (128 + c / 64 % 64) ∷ []) (128 + c % 64) 0 (omega arith) (omega arith)
            (opened out high (224 + c / 4096) (128 + c / 64 % 64) 1 (three_opens (224 + c / 4096) (128 + c / 64 % 64) (omega arith) (omega arith) (omega arith) (omega arith) long surrogate)))
        | inr four ↦
            let top : c < 1114112 = ⊎_elim (λ a. omega arith) (λ a. a.1) (scalar_cases c sc) in
            let long : 240 + c / 262144 ≡ 240 → 144 ≤ 128 + c / 4096 % 64 = λ e. let z : c / 262144 ≡ 0 = omega arith in omega arith in
            let last : 240 + c / 262144 ≡ 244 → 128 + c / 4096 % 64 ≤ 143 = λ e. let z : c / 262144 ≡ 4 = omega arith in omega arith in
            subst (PutsIn out high) (sym (encode_four c four))
            (one_more out high ((240 + c / 262144) ∷ (128 + c / 4096 % 64) ∷ (128 + c / 64 % 64) ∷ []) (128 + c % 64) 0 (omega arith) (omega arith)
            (one_more out high ((240 + c / 262144) ∷ (128 + c / 4096 % 64) ∷ []) (128 + c / 64 % 64) 1 (omega arith) (omega arith)
            (opened out high (240 + c / 262144) (128 + c / 4096 % 64) 2 (four_opens (240 + c / 262144) (128 + c / 4096 % 64) (omega arith) (omega arith) (omega arith) (omega arith) long last))))
      ]
    ]
  ]
    where
      not_surrogate : (x : ℕ) → x / 4096 ≡ 13 → ¬ ((55296 ≤ x) × (x < 57344)) → 128 + x / 64 % 64 ≤ 159
      not_surrogate x z low = elim (cases_lt x 55296) [
        | inl lt ↦ omega arith
        | inr ge ↦ absurd (low (ge, omega arith))
      ]

  -- ---- escapes

  -- after an escape the text goes on with the unit
  abbrev pub TakesUnit : List ℕ → Option ℕ → List ℕ → ℕ → Type 0
  TakesUnit out high t u = (o : List ℕ) (h : Option ℕ) → with_unit out high u ≡ reads o h between → Eats strict (at_place out high between) t (λ n. go (at_place o h between)) Anything

  backslash_in : (out : List ℕ) (high : Option ℕ) → Eats strict (at_place out high between) (92 ∷ []) (λ n. go (at_place out high escape)) Anything
  backslash_in out high = eats_within strict out out high high between escape role k 92 refl

  takes_short : (out : List ℕ) (high : Option ℕ) (b u : ℕ) → short_escape b ≡ Some u → TakesUnit out high (92 ∷ b ∷ []) u
  takes_short out high b u e o h w =
      let not_u : (b == 117) ≡ false = false_from_ne_true _ (λ x. let s = eqb-true b 117 x in let t : short_escape 117 ≡ Some u = ap short_escape (sym s) ∙ e in cc) in
      let step_is : step_text out high escape b ≡ reads o h between = ap (λ x. cond x (reads out high (hex 3 0)) (step_short out high (short_escape b))) not_u ∙ ap (step_short out high) e ∙ w in
      eats_then strict (at_place out high between) (at_place out high escape) (92 ∷ []) (b ∷ []) _ Anything (backslash_in out high) (eats_within strict out o high h escape between role k b step_is)

  pub hex_in : (out : List ℕ) (high : Option ℕ) (more u b : ℕ) → is_digit b 16 ≡ true → Eats strict (at_place out high (hex (suc more) u)) (b ∷ []) (λ n. go (at_place out high (hex more (u * 16 + digit_value b)))) Anything
  hex_in out high more u b d = eats_within strict out out high high (hex (suc more) u) (hex more (u * 16 + digit_value b)) role k b (ap (λ x. cond x (reads out high (hex more (u * 16 + digit_value b))) no_text) d)

  takes_hex : (out : List ℕ) (high : Option ℕ) (u : ℕ) (t : List ℕ) → IsHexEscape u t → TakesUnit out high t u
  takes_hex out high u t x o h w =
      let value : ((((0 * 16 + digit_value x.a) * 16 + digit_value x.b) * 16 + digit_value x.c) * 16 + digit_value x.d) ≡ u = (omega arith) ∙ sym x.value in
      let last : step_text out high (hex 0 (((0 * 16 + digit_value x.a) * 16 + digit_value x.b) * 16 + digit_value x.c)) x.d ≡ reads o h between =
      ap (λ y. cond y (with_unit out high ((((0 * 16 + digit_value x.a) * 16 + digit_value x.b) * 16 + digit_value x.c) * 16 + digit_value x.d)) no_text) x.are_digits.3 ∙ ap (with_unit out high) value ∙ w in
      let u_in : Eats strict (at_place out high escape) (117 ∷ []) (λ n. go (at_place out high (hex 3 0))) Anything = eats_within strict out out high high escape (hex 3 0) role k 117 refl in
      let two = eats_then strict (at_place out high between) (at_place out high escape) (92 ∷ []) (117 ∷ []) _ Anything (backslash_in out high) u_in in
      let three = eats_then strict (at_place out high between) (at_place out high (hex 3 0)) (92 ∷ 117 ∷ []) (x.a ∷ []) _ Anything two (hex_in out high 2 0 x.a x.are_digits.0) in
      let four = eats_then strict (at_place out high between) (at_place out high (hex 2 (0 * 16 + digit_value x.a))) (92 ∷ 117 ∷ x.a ∷ []) (x.b ∷ []) _ Anything three (hex_in out high 1 (0 * 16 + digit_value x.a) x.b x.are_digits.1) in
      let five = eats_then strict (at_place out high between) (at_place out high (hex 1 ((0 * 16 + digit_value x.a) * 16 + digit_value x.b))) (92 ∷ 117 ∷ x.a ∷ x.b ∷ []) (x.c ∷ []) _ Anything four (hex_in out high 0 ((0 * 16 + digit_value x.a) * 16 + digit_value x.b) x.c x.are_digits.2) in
      let six = eats_then strict (at_place out high between) (at_place out high (hex 0 (((0 * 16 + digit_value x.a) * 16 + digit_value x.b) * 16 + digit_value x.c))) (92 ∷ 117 ∷ x.a ∷ x.b ∷ x.c ∷ []) (x.d ∷ []) _ Anything five
      (eats_within strict out o high h (hex 0 (((0 * 16 + digit_value x.a) * 16 + digit_value x.b) * 16 + digit_value x.c)) between role k x.d last) in
      eats_same strict (at_place out high between) _ t _ Anything (sym x.spelled) six

  takes_unit : (out : List ℕ) (high : Option ℕ) (u : ℕ) (t : List ℕ) → IsPiece (unit u) t → TakesUnit out high t u
  takes_unit out high u t (inl s) o h w = eats_same strict (at_place out high between) _ t _ Anything (sym s.1) (takes_short out high s.0 u s.2 o h w)
  takes_unit out high u t (inr x) o h w = takes_hex out high u t x o h w

-- ---- pieces

-- the pieces that a high surrogate which waits stands for
abbrev pub waiting : Option ℕ → List Piece
waiting None = []
waiting (Some h) = unit h ∷ []

abbrev pub Waits : Option ℕ → Type 0
Waits None = Unit {0}
Waits (Some h) = is_high_surrogate h ≡ true

not_paired : (u : ℕ) (ps : List Piece) → is_high_surrogate u ≡ false → text_of (unit u ∷ ps) ≡ alone u ++ text_of ps
not_paired u [] e = sym (append-nil (alone u))
not_paired u (plain c ∷ ps) e = refl
not_paired u (unit v ∷ ps) e = ap (λ b. cond (b && is_low_surrogate v) (encode_utf8 (surrogate_pair_char u v) ++ text_of ps) (alone u ++ text_of (unit v ∷ ps))) e

pub then_plain : (high : Option ℕ) (out : List ℕ) (c : ℕ) (ps : List Piece) → (flushed out high ++ encode_utf8 c) ++ text_of ps ≡ out ++ text_of (waiting high ++ plain c ∷ ps)
then_plain None out c ps = append_assoc out (encode_utf8 c) (text_of ps)
then_plain (Some h) out c ps = append_assoc (out ++ alone h) (encode_utf8 c) (text_of ps) ∙ append_assoc out (alone h) (encode_utf8 c ++ text_of ps)

-- what a unit leaves: the text and the high surrogate, and the same text with the pieces behind
pub record AfterUnit (out : List ℕ) (high : Option ℕ) (u : ℕ) (ps : List Piece) : Type 0 where
  pub new : List ℕ
  pub new_high : Option ℕ
  pub is : with_unit out high u ≡ reads new new_high between
  pub waits : Waits new_high
  pub same : new ++ text_of (waiting new_high ++ ps) ≡ out ++ text_of (waiting high ++ unit u ∷ ps)

pub after_unit : (out : List ℕ) (high : Option ℕ) (u : ℕ) (ps : List Piece) → Waits high → AfterUnit out high u ps
after_unit out None u ps w = by (is_high_surrogate u) refl
  where
    by : (b : Bool) → is_high_surrogate u ≡ b → AfterUnit out None u ps
    by true e = record { new = out; new_high = Some u; is = ap (λ b. cond b (reads out (Some u) between) (reads (out ++ alone u) None between)) e; waits = e; same = refl }
    by false e = record {
      new = out ++ alone u;
      new_high = None;
      is = ap (λ b. cond b (reads out (Some u) between) (reads (out ++ alone u) None between)) e;
      waits = tt;
      same = append_assoc out (alone u) (text_of ps) ∙ ap (λ (x : List ℕ). out ++ x) (sym (not_paired u ps e));
    }
after_unit out (Some h) u ps w = by (is_low_surrogate u) (is_high_surrogate u) refl refl
  where
    pair_text : (b : Bool) → is_low_surrogate u ≡ b → text_of (unit h ∷ unit u ∷ ps) ≡ cond b (encode_utf8 (surrogate_pair_char h u) ++ text_of ps) (alone h ++ text_of (unit u ∷ ps))
    pair_text b e = ap (λ x. cond (x && is_low_surrogate u) (encode_utf8 (surrogate_pair_char h u) ++ text_of ps) (alone h ++ text_of (unit u ∷ ps))) w ∙ ap (λ x. cond x (encode_utf8 (surrogate_pair_char h u) ++ text_of ps) (alone h ++ text_of (unit u ∷ ps))) e

    by : (low up : Bool) → is_low_surrogate u ≡ low → is_high_surrogate u ≡ up → AfterUnit out (Some h) u ps
    by true up l e = record {
      new = out ++ encode_utf8 (surrogate_pair_char h u);
      new_high = None;
      is = ap (λ b. cond b (reads (out ++ encode_utf8 (surrogate_pair_char h u)) None between) (cond (is_high_surrogate u) (reads (out ++ alone h) (Some u) between) (reads ((out ++ alone h) ++ alone u) None between))) l;
      waits = tt;
      same = append_assoc out (encode_utf8 (surrogate_pair_char h u)) (text_of ps) ∙ ap (λ (x : List ℕ). out ++ x) (sym (pair_text true l));
    }
    by false true l e = record {
      new = out ++ alone h;
      new_high = Some u;
      is = ap₂ (λ a b. cond a (reads (out ++ encode_utf8 (surrogate_pair_char h u)) None between) (cond b (reads (out ++ alone h) (Some u) between) (reads ((out ++ alone h) ++ alone u) None between))) l e;
      waits = e;
      same = append_assoc out (alone h) (text_of (unit u ∷ ps)) ∙ ap (λ (x : List ℕ). out ++ x) (sym (pair_text false l));
    }
    by false false l e = record {
      new = (out ++ alone h) ++ alone u;
      new_high = None;
      is = ap₂ (λ a b. cond a (reads (out ++ encode_utf8 (surrogate_pair_char h u)) None between) (cond b (reads (out ++ alone h) (Some u) between) (reads ((out ++ alone h) ++ alone u) None between))) l e;
      waits = tt;
      same = append_assoc (out ++ alone h) (alone u) (text_of ps) ∙ append_assoc out (alone h) (alone u ++ text_of ps) ∙ ap (λ (x : List ℕ). out ++ x) (ap (λ (x : List ℕ). alone h ++ x) (sym (not_paired u ps e)) ∙ sym (pair_text false l));
    }

-- the pieces of a text, up to its closing quote
pub record Through (strict : Bool) (role : Role) (k : List Frame) (out : List ℕ) (high : Option ℕ) (ps : List Piece) (t : List ℕ) : Type 0 where
  pub new : List ℕ
  pub new_high : Option ℕ
  pub eaten : Eats strict (in_text out high between role k) t (λ n. go (in_text new new_high between role k)) Anything
  pub same : flushed new new_high ≡ out ++ text_of (waiting high ++ ps)

pub flushed_is : (out : List ℕ) (high : Option ℕ) → flushed out high ≡ out ++ text_of (waiting high ++ [])
flushed_is out None = sym (append-nil out)
flushed_is out (Some h) = refl

eats_pieces : (strict : Bool) (role : Role) (k : List Frame) (out : List ℕ) (high : Option ℕ) (ps : List Piece) (t : List ℕ) → Waits high → Pieces ps t → Through strict role k out high ps t
eats_pieces strict role k out high [] t w e = record { new = out; new_high = high; eaten = eats_same strict _ [] t _ Anything (sym e) (eats_none strict (in_text out high between role k)); same = flushed_is out high }
eats_pieces strict role k out high (plain c ∷ ps) t w p =
    let f = p.first in
    let more = eats_pieces strict role k (flushed out high ++ encode_utf8 c) None ps p.back tt p.second in
    record {
      new = more.new;
      new_high = more.new_high;
      eaten = eats_same strict _ (encode_utf8 c ++ p.back) t _ Anything (sym (p.whole ∙ ap (λ (x : List ℕ). x ++ p.back) f.4))
          (eats_then strict (in_text out high between role k) (in_text (flushed out high ++ encode_utf8 c) None between role k) (encode_utf8 c) p.back _ Anything (puts_plain strict role k out high c f.0 f.1 f.2 f.3) more.eaten);
      same = more.same ∙ then_plain high out c ps;
    }
eats_pieces strict role k out high (unit u ∷ ps) t w p =
    let a = after_unit out high u ps w in
    let more = eats_pieces strict role k a.new a.new_high ps p.back a.waits p.second in
    record {
      new = more.new;
      new_high = more.new_high;
      eaten = eats_same strict _ (p.front ++ p.back) t _ Anything (sym p.whole)
          (eats_then strict (in_text out high between role k) (in_text a.new a.new_high between role k) p.front p.back _ Anything (takes_unit strict role k out high u p.front p.first a.new a.new_high a.is) more.eaten);
      same = more.same ∙ a.same;
    }

-- behind its opening quote, a text is read up to and with its closing quote
pub eats_text : (strict : Bool) (role : Role) (k : List Frame) (bytes t : List ℕ) (ps : List Piece) → Joined (Pieces ps) (Byte 34) t → bytes ≡ text_of ps → Eats strict (in_text [] None between role k) t (λ n. finish_text strict (n - 1) bytes role k) Anything
unfolding step
eats_text strict role k bytes t ps j value =
    let through = eats_pieces strict role k [] None ps j.front tt j.first in
    let all : flushed through.new through.new_high ≡ bytes = through.same ∙ sym value in
    let quote : Eats strict (in_text through.new through.new_high between role k) (34 ∷ []) (λ n. finish_text strict (n - 1) bytes role k) Anything =
    eats_byte strict _ 34 (λ n. finish_text strict (n - 1) bytes role k) (λ at. let n : at ≡ at + 1 - 1 = omega arith in ap (λ x. finish_text strict at x role k) all ∙ ap (λ m. finish_text strict m bytes role k) n) in
    eats_same strict _ (j.front ++ 34 ∷ []) t _ Anything (sym (j.whole ∙ ap (λ (x : List ℕ). j.front ++ x) j.second)) (eats_then strict _ _ j.front (34 ∷ []) _ Anything through.eaten quote)
