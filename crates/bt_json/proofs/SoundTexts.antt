-- A text that was read is in the grammar.
use Rattle.std.proofs.Common.{◌≡◌, ℕ, zero, suc, ◌+◌, ◌*◌, ◌<◌, ◌≤◌, Bool, true, false, cond, List, [], ◌∷◌, ◌++◌, length, Option, Some, None, refl, ap, ap₂, ◌∙◌, sym, subst, arith, append_assoc, ◌==◌, inl, inr}
use Rattle.std.specs.Prelude.{◌&&◌, nat_le, nat_lt}
use Rattle.std.specs.Char.{is_digit, digit_value}
use Rattle.std.proofs.lemmas.List.{append-nil, length-append}
use Rattle.std.proofs.lemmas.Bool.{eqb-true}
use Rattle.std.proofs.lemmas.Bool.Decides.{nat_tests}
use Rattle.std.proofs.lemmas.Str.{encode_ascii}
use lib.Utf8.{low_scalar}
use Rattle.bt_json.specs.Grammar.{Texts, ◌▸◌, Byte, Piece, plain, unit, IsPiece, IsHexEscape, Pieces, text_of, short_escape}
use Rattle.bt_json.specs.inner.Reading.{Place, between, escape, hex, tail, InText, reads, closes, no_text, flushed, with_unit, lead_of, behind_tail, step_lead, step_between, step_short, step_hex, step_text}
use Rattle.bt_json.specs.inner.Running.{is_plain}
use Rattle.bt_json.proofs.Characters.{IsWide, two_bytes, three_bytes, four_bytes, more_than}
use Rattle.bt_json.proofs.EatenTexts.{waiting, Waits, after_unit, then_plain, flushed_is}
use Rattle.bt_json.proofs.Joins.{join, extend}

-- ---- pieces as far as they are read

-- the pieces stand for what was read: the bytes, and a high surrogate that waits
pub record Stands (out : List ℕ) (high : Option ℕ) (ps : List Piece) : Type 0 where
  pub waits : Waits high
  pub same : (qs : List Piece) → out ++ text_of (waiting high ++ qs) ≡ text_of (ps ++ qs)

pub record Between (out : List ℕ) (high : Option ℕ) (t : List ℕ) : Type 0 where
  pub pieces : List Piece
  pub spelled : Pieces pieces t
  pub stands : Stands out high pieces

-- a character that stands for itself
pub record IsPlainText (bytes : List ℕ) : Type 0 where
  pub char : ℕ
  pub is_piece : IsPiece (plain char) bytes

-- these bytes become such a character
abbrev Completes : ℕ → ℕ → ℕ → Texts
Completes low top zero part = (b : ℕ) → low ≤ b → b ≤ top → IsPlainText (part ++ b ∷ [])
Completes low top (suc more) part = (b : ℕ) → low ≤ b → b ≤ top → Completes 128 191 more (part ++ b ∷ [])

pub record InCharacter (out : List ℕ) (low top more : ℕ) (t : List ℕ) : Type 0 where
  pub old : List ℕ
  pub old_high : Option ℕ
  pub part : List ℕ
  pub front : List ℕ
  pub before : Between old old_high front
  pub whole : t ≡ front ++ part
  pub out_is : out ≡ flushed old old_high ++ part
  pub completes : Completes low top more part
  pub some : low ≤ top

-- the digits of an escape so far
abbrev hex_value : ℕ → List ℕ → ℕ
hex_value u [] = u
hex_value u (d ∷ ds) = hex_value (u * 16 + digit_value d) ds

abbrev AreHex : List ℕ → Type 0
AreHex [] = Unit {0}
AreHex (d ∷ ds) = (is_digit d 16 ≡ true) × AreHex ds

pub record HexPart (more u : ℕ) (t : List ℕ) : Type 0 where
  pub digits : List ℕ
  pub len : length digits + more ≡ 3
  pub are_digits : AreHex digits
  pub value : u ≡ hex_value 0 digits
  pub spelled : t ≡ 92 ∷ 117 ∷ digits

abbrev pub Half : List ℕ → Option ℕ → Place → Texts
Half out high between t = Between out high t
Half out high escape t = (Between out high ▸ Byte 92) t
Half out high (hex more u) t = (Between out high ▸ HexPart more u) t
Half out high (tail low top more) t = (high ≡ None) × InCharacter out low top more t

-- ---- one piece more

pieces_push : (ps : List Piece) (q : Piece) (t u : List ℕ) → Pieces ps t → IsPiece q u → Pieces (ps ++ q ∷ []) (t ++ u)
pieces_push [] q t u e h = record { front = u; back = []; first = h; second = refl; whole = ap (λ (x : List ℕ). x ++ u) e ∙ sym (append-nil u) }
pieces_push (p ∷ ps) q t u j h = record { front = j.front; back = j.back ++ u; first = j.first; second = pieces_push ps q j.back u j.second h; whole = ap (λ (x : List ℕ). x ++ u) j.whole ∙ append_assoc j.front j.back u }

regroup : (ps : List Piece) (q : Piece) (qs : List Piece) → (ps ++ q ∷ []) ++ qs ≡ ps ++ (q ∷ qs)
regroup [] q qs = refl
regroup (p ∷ ps) q qs = ap (λ l. p ∷ l) (regroup ps q qs)

plain_put : (out : List ℕ) (high : Option ℕ) (c : ℕ) (t u : List ℕ) → Between out high t → IsPiece (plain c) u → Between (flushed out high ++ u) None (t ++ u)
plain_put out high c t u b p = record {
  pieces = b.pieces ++ plain c ∷ [];
  spelled = pieces_push b.pieces (plain c) t u b.spelled p;
  stands = record {
    waits = tt;
    same = λ qs. ap (λ (x : List ℕ). (flushed out high ++ x) ++ text_of qs) p.4 ∙ then_plain high out c qs ∙ b.stands.same (plain c ∷ qs) ∙ ap text_of (sym (regroup b.pieces (plain c) qs));
  };
}

-- after a unit
abbrev UnitLeft : List ℕ → InText → Type 0
UnitLeft t (reads out high place) = (place ≡ between) × Between out high t
UnitLeft t (closes bytes) = ⊥
UnitLeft t no_text = ⊥

unit_left : (out : List ℕ) (high : Option ℕ) (u : ℕ) (t s : List ℕ) → Between out high t → IsPiece (unit u) s → UnitLeft (t ++ s) (with_unit out high u)
unit_left out high u t s b p =
    let a = after_unit out high u [] b.stands.waits in
    let same : (qs : List Piece) → a.new ++ text_of (waiting a.new_high ++ qs) ≡ text_of ((b.pieces ++ unit u ∷ []) ++ qs) = λ qs.
    let d = after_unit out high u qs b.stands.waits in
    let e : reads a.new a.new_high between ≡ reads d.new d.new_high between = sym a.is ∙ d.is in
    let news : a.new ≡ d.new = cc in
    let highs : a.new_high ≡ d.new_high = cc in
    ap₂ (λ (x : List ℕ) (y : Option ℕ). x ++ text_of (waiting y ++ qs)) news highs ∙ d.same ∙ b.stands.same (unit u ∷ qs) ∙ ap text_of (sym (regroup b.pieces (unit u) qs)) in
    subst (UnitLeft (t ++ s)) (sym a.is) (refl, record { pieces = b.pieces ++ unit u ∷ []; spelled = pieces_push b.pieces (unit u) t s b.spelled p; stands = record { waits = a.waits; same = same } })

-- ---- characters

wide_plain : (bytes : List ℕ) → IsWide bytes → IsPlainText bytes
wide_plain bytes w = let l = w.wide in record { char = w.char; is_piece = (w.is_scalar, omega arith, (λ e. omega arith), (λ e. omega arith), sym w.spelled) }

ascii_plain : (b : ℕ) → is_plain b ≡ true → IsPiece (plain b) (b ∷ [])
ascii_plain b e =
    let lt : b < 128 = grind (arith, nat_tests) in
    (low_scalar b (omega arith), grind (arith, nat_tests), (λ h. grind (arith, nat_tests)), (λ h. grind (arith, nat_tests)), sym (encode_ascii b lt))

completes_from : (a low top more : ℕ) → lead_of a ≡ Some (tail low top more) → Completes low top more (a ∷ [])
completes_from a low top zero e = λ b l h. wide_plain _ (two_bytes a b low top e l h)
completes_from a low top (suc zero) e = λ b l h d dl dh. wide_plain _ (three_bytes a b d low top e l h dl dh)
completes_from a low top (suc (suc zero)) e = λ b l h d dl dh f fl fh. wide_plain _ (four_bytes a b d f low top e l h dl dh fl fh)
completes_from a low top (suc (suc (suc more))) e = absurd (let m = more_than a low top (suc (suc (suc more))) e in omega arith)

lead_is_tail : (a : ℕ) (p : Place) → lead_of a ≡ Some p → (low : ℕ) × (top : ℕ) × (more : ℕ) × (p ≡ tail low top more)
unfolding lead_of
lead_is_tail a (tail low top more) e = (low, top, more, refl)
lead_is_tail a between e = absurd (grind (arith, nat_tests))
lead_is_tail a escape e = absurd (grind (arith, nat_tests))
lead_is_tail a (hex more u) e = absurd (grind (arith, nat_tests))

tail_some : (a low top more : ℕ) → lead_of a ≡ Some (tail low top more) → low ≤ top
unfolding lead_of
tail_some a low top more e = grind (arith, nat_tests)

lead_put : (out : List ℕ) (high : Option ℕ) (a : ℕ) (p : Place) (t : List ℕ) → lead_of a ≡ Some p → Between out high t → Half (flushed out high ++ a ∷ []) None p (t ++ a ∷ [])
lead_put out high a p t e b =
    let q = lead_is_tail a p e in
    subst (λ x. Half (flushed out high ++ a ∷ []) None x (t ++ a ∷ [])) (sym q.3) (
      refl,
      record {
        old = out;
        old_high = high;
        part = a ∷ [];
        front = t;
        before = b;
        whole = refl;
        out_is = refl;
        completes = completes_from a q.0 q.1 q.2 (e ∙ ap (λ x. Some x) q.3);
        some = tail_some a q.0 q.1 q.2 (e ∙ ap (λ x. Some x) q.3);
      },
    )

tail_put : (out : List ℕ) (low top more b : ℕ) (t : List ℕ) → low ≤ b → b ≤ top → InCharacter out low top more t → Half (out ++ b ∷ []) None (behind_tail more) (t ++ b ∷ [])
tail_put out low top zero b t l h i =
    let c = i.completes b l h in
    let placed = plain_put i.old i.old_high c.char i.front (i.part ++ b ∷ []) i.before c.is_piece in
    let outs : flushed i.old i.old_high ++ (i.part ++ b ∷ []) ≡ out ++ b ∷ [] = sym (ap (λ (x : List ℕ). x ++ b ∷ []) i.out_is ∙ append_assoc (flushed i.old i.old_high) i.part (b ∷ [])) in
    let texts : i.front ++ (i.part ++ b ∷ []) ≡ t ++ b ∷ [] = sym (ap (λ (x : List ℕ). x ++ b ∷ []) i.whole ∙ append_assoc i.front i.part (b ∷ [])) in
    subst (λ (x : List ℕ). Between (out ++ b ∷ []) None x) texts (subst (λ (x : List ℕ). Between x None (i.front ++ (i.part ++ b ∷ []))) outs placed)
tail_put out low top (suc more) b t l h i = (
  refl,
  record {
    old = i.old;
    old_high = i.old_high;
    part = i.part ++ b ∷ [];
    front = i.front;
    before = i.before;
    whole = ap (λ (x : List ℕ). x ++ b ∷ []) i.whole ∙ append_assoc i.front i.part (b ∷ []);
    out_is = ap (λ (x : List ℕ). x ++ b ∷ []) i.out_is ∙ append_assoc (flushed i.old i.old_high) i.part (b ∷ []);
    completes = i.completes b l h;
    some = omega arith;
  },
)

-- ---- steps

abbrev pub TextOnwards : ℕ → List ℕ → InText → Type 0
TextOnwards b t (reads out high place) = Half out high place (t ++ b ∷ [])
TextOnwards b t (closes bytes) = (b ≡ 34) × (ps : List Piece) × Pieces ps t × (bytes ≡ text_of ps)
TextOnwards b t no_text = Unit {0}

chosen : (x : Bool) (a c : InText) (b : ℕ) (t : List ℕ) → (x ≡ true → TextOnwards b t a) → (x ≡ false → TextOnwards b t c) → TextOnwards b t (cond x a c)
chosen true a c b t f g = f refl
chosen false a c b t f g = g refl

text_flushed : (out : List ℕ) (high : Option ℕ) (ps : List Piece) → Stands out high ps → flushed out high ≡ text_of ps
text_flushed out high ps s = flushed_is out high ∙ s.same [] ∙ ap text_of (append-nil ps)

from_unit : (out : List ℕ) (high : Option ℕ) (u b : ℕ) (t : List ℕ) (x : InText) → UnitLeft (t ++ b ∷ []) x → TextOnwards b t x
from_unit out high u b t (reads o h p) l = subst (λ q. Half o h q (t ++ b ∷ [])) (sym l.0) l.1
from_unit out high u b t (closes bytes) l = absurd l
from_unit out high u b t no_text l = absurd l

lead_step : (out : List ℕ) (high : Option ℕ) (b : ℕ) (t : List ℕ) (o : Option Place) → lead_of b ≡ o → Between out high t → TextOnwards b t (step_lead (flushed out high) b o)
lead_step out high b t None e h = tt
lead_step out high b t (Some p) e h = lead_put out high b p t e h

between_step : (out : List ℕ) (high : Option ℕ) (b : ℕ) (t : List ℕ) → Between out high t → TextOnwards b t (step_between out high b)
between_step out high b t h =
    chosen (b == 34) _ _ b t (λ e. (eqb-true b 34 e, h.pieces, h.spelled, text_flushed out high h.pieces h.stands)) (λ not_quote.
    chosen (b == 92) _ _ b t (λ e. join t (b ∷ []) h (ap (λ x. x ∷ []) (eqb-true b 92 e))) (λ not_slash.
    chosen (nat_lt b 32) _ _ b t (λ e. tt) (λ no_control.
    chosen (nat_lt b 128) _ _ b t (λ ascii. plain_put out high b t (b ∷ []) h (ascii_plain b (grind (arith, nat_tests)))) (λ wide.
    lead_step out high b t (lead_of b) refl h))))

hex_length : (ds : List ℕ) (d : ℕ) (u : ℕ) → hex_value u (ds ++ d ∷ []) ≡ hex_value u ds * 16 + digit_value d
hex_length [] d u = refl
hex_length (e ∷ ds) d u = hex_length ds d (u * 16 + digit_value e)

hex_push : (ds : List ℕ) (d : ℕ) → AreHex ds → is_digit d 16 ≡ true → AreHex (ds ++ d ∷ [])
hex_push [] d h e = (e, tt)
hex_push (c ∷ ds) d h e = (h.0, hex_push ds d h.1 e)

-- four digits are an escape
four_digits : (ds : List ℕ) (d : ℕ) (t : List ℕ) → length ds + 0 ≡ 3 → AreHex ds → is_digit d 16 ≡ true → t ≡ 92 ∷ 117 ∷ (ds ++ d ∷ []) → IsHexEscape (hex_value 0 ds * 16 + digit_value d) t
four_digits [] d t l h e w = absurd (omega arith)
four_digits (x ∷ []) d t l h e w = absurd (omega arith)
four_digits (x ∷ y ∷ []) d t l h e w = absurd (omega arith)
four_digits (x ∷ y ∷ z ∷ []) d t l h e w = record { a = x; b = y; c = z; d = d; spelled = w; are_digits = (h.0, h.1.0, h.1.1.0, e); value = let n : ((0 * 16 + digit_value x) * 16 + digit_value y) ≡ digit_value x * 16 + digit_value y = omega arith in ap (λ m. (m * 16 + digit_value z) * 16 + digit_value d) n }
four_digits (x ∷ y ∷ z ∷ w ∷ ds) d t l h e s = absurd (omega arith)

hex_step : (out : List ℕ) (high : Option ℕ) (more u b : ℕ) (t : List ℕ) → is_digit b 16 ≡ true → (Between out high ▸ HexPart more u) t → TextOnwards b t (step_hex out high more (u * 16 + digit_value b))
hex_step out high zero u b t d j =
    let p = j.second in
    let four = four_digits p.digits b (j.back ++ b ∷ []) p.len p.are_digits d (ap (λ (x : List ℕ). x ++ b ∷ []) p.spelled) in
    let value : hex_value 0 p.digits * 16 + digit_value b ≡ u * 16 + digit_value b = ap (λ x. x * 16 + digit_value b) (sym p.value) in
    let put = unit_left out high (u * 16 + digit_value b) j.front (j.back ++ b ∷ []) j.first (inr (subst (λ x. IsHexEscape x (j.back ++ b ∷ [])) value four)) in
    let texts : j.front ++ (j.back ++ b ∷ []) ≡ t ++ b ∷ [] = sym (ap (λ (x : List ℕ). x ++ b ∷ []) j.whole ∙ append_assoc j.front j.back (b ∷ [])) in
    from_unit out high (u * 16 + digit_value b) b t _ (subst (λ (x : List ℕ). UnitLeft x (with_unit out high (u * 16 + digit_value b))) texts put)
hex_step out high (suc more) u b t d j = extend (b ∷ []) t (λ v p. record {
  digits = p.digits ++ b ∷ [];
  len = omega (arith, length-append p.digits (b ∷ []), p.len);
  are_digits = hex_push p.digits b p.are_digits d;
  value = ap (λ x. x * 16 + digit_value b) p.value ∙ sym (hex_length p.digits b 0);
  spelled = ap (λ (x : List ℕ). x ++ b ∷ []) p.spelled;
}) j

short_step : (out : List ℕ) (high : Option ℕ) (b : ℕ) (t : List ℕ) (o : Option ℕ) → short_escape b ≡ o → (Between out high ▸ Byte 92) t → TextOnwards b t (step_short out high o)
short_step out high b t None e j = tt
short_step out high b t (Some u) e j =
    let put = unit_left out high u j.front (j.back ++ b ∷ []) j.first (inl (b, ap (λ (x : List ℕ). x ++ b ∷ []) j.second, e)) in
    let texts : j.front ++ (j.back ++ b ∷ []) ≡ t ++ b ∷ [] = sym (ap (λ (x : List ℕ). x ++ b ∷ []) j.whole ∙ append_assoc j.front j.back (b ∷ [])) in
    from_unit out high u b t _ (subst (λ (x : List ℕ). UnitLeft x (with_unit out high u)) texts put)

pub text_step : (out : List ℕ) (high : Option ℕ) (place : Place) (b : ℕ) (t : List ℕ) → Half out high place t → TextOnwards b t (step_text out high place b)
text_step out high between b t h = between_step out high b t h
text_step out high escape b t j =
    chosen (b == 117) _ _ b t (λ e. extend (b ∷ []) t (λ u s. record { digits = []; len = refl; are_digits = tt; value = refl; spelled = ap₂ (λ (x : List ℕ) y. x ++ y ∷ []) s (eqb-true b 117 e) }) j)
    (λ other. short_step out high b t (short_escape b) refl j)
text_step out high (hex more u) b t j = chosen (is_digit b 16) _ _ b t (λ d. hex_step out high more u b t d j) (λ other. tt)
text_step out high (tail low top more) b t h =
    chosen (nat_le low b && nat_le b top) _ _ b t
    (λ e. let l : low ≤ b = grind (arith, nat_tests) in let r : b ≤ top = grind (arith, nat_tests) in
    subst (λ g. Half (out ++ b ∷ []) g (behind_tail more) (t ++ b ∷ [])) (sym h.0) (tail_put out low top more b t l r h.1))
    (λ other. tt)

pub nothing_read : Between [] None []
nothing_read = record { pieces = []; spelled = refl; stands = record { waits = tt; same = λ qs. refl } }
