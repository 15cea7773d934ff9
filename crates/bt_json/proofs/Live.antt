-- Wherever reading has come to, some text that follows ends a value.
use Rattle.std.proofs.Common.{◌≡◌, ℕ, zero, suc, ◌+◌, ◌-◌, ◌*◌, ◌≤◌, true, false, cond, List, [], ◌∷◌, ◌++◌, length, Option, refl, ap, ◌∙◌, sym, subst, arith}
use Rattle.std.specs.Char.{is_digit, digit_value}
use Rattle.std.proofs.lemmas.List.{append-nil}
use Rattle.bt_json.specs.Json.{Json, number, text, list, object, no_items, no_members}
use Rattle.bt_json.specs.Stands.{items_of, members_of}
use Rattle.bt_json.specs.Grammar.{IsText}
use Rattle.bt_json.specs.Answers.{HasValue}
use Rattle.bt_json.specs.inner.Bytes.{kind_of}
use Rattle.bt_json.specs.inner.Reading.{State, go, stop, found, step, run, Frame, in_list, in_object, Role, as_value, as_name, Place, between, escape, hex, tail, no_text, Numeral, numeral_value, with_whole, with_fraction, with_power, goes_on, may_end, due, opened_list, behind, opened_object, name_due, colon_due, in_text, in_number, in_word, deliver, flushed, with_unit, step_text, step_over, step_number, step_in_number, step_past}
use Rattle.bt_json.specs.declared.kind.Kind.TheVariants.{Blank}
use Rattle.bt_json.specs.declared.kind.Mark.TheVariants.{Figure}
use Rattle.bt_json.specs.declared.kind.Phase.{Phase}
use Rattle.bt_json.specs.declared.kind.Phase.TheVariants.{BeforeWhole, AfterZero, InWhole, AfterPoint, InFraction, AfterLetter, AfterSign, InPower}
use Rattle.bt_json.proofs.ByteKinds.{blank-kind}
use Rattle.bt_json.proofs.Eating.{walk, run_is, ended, Eats, eats_byte, eats_then, eats_none, eats_next, Anything, eats_word}
use Rattle.bt_json.proofs.Blanks.{behind_blank}
use Rattle.bt_json.proofs.Eaten.{list_end, empty_list, object_end, empty_object, colon_in, quote_of_name, name_read, text_read}
use Rattle.bt_json.proofs.EatenTexts.{eats_within, tail_step, hex_in, Waits, after_unit}
use Rattle.bt_json.proofs.EatenNumbers.{eats_mark, mark-digit, mark-over}
use Rattle.bt_json.proofs.Sound.{Reached}
use Rattle.bt_json.proofs.Whole.{Right, run_right}

-- a text that ends a value from a state on
pub record Live (s : State) : Type 0 where
  pub more : List ℕ
  pub value : Json
  pub place : ℕ → ℕ
  pub eaten : Eats false s more (λ n. stop (found value (place n))) Anything

live_then : (s mid : State) (t : List ℕ) → Eats false s t (λ n. go mid) Anything → Live mid → Live s
live_then s mid t e l = record { more = t ++ l.more; value = l.value; place = l.place; eaten = eats_then false s mid t l.more (λ n. stop (found l.value (l.place n))) Anything e l.eaten }

-- behind a value, the open lists and objects are closed
live_delivered : (k : List Frame) (s : State) (t : List ℕ) (v : Json) → Eats false s t (deliver v k) Anything → Live s
live_delivered [] s t v e = record { more = t; value = v; place = λ n. n; eaten = eats_next false s t (deliver v []) (λ n. stop (found v n)) Anything (λ n. refl) e }
live_delivered (in_list vs ∷ k) s t v e =
    let there : Eats false s t (λ n. go (behind v (in_list vs) k)) Anything = eats_next false s t (deliver v (in_list vs ∷ k)) (λ n. go (behind v (in_list vs) k)) Anything (λ n. refl) e in
    live_delivered k s (t ++ 93 ∷ []) (list (items_of (vs ++ v ∷ []))) (eats_then false s (behind v (in_list vs) k) t (93 ∷ []) (deliver (list (items_of (vs ++ v ∷ []))) k) Anything there (list_end false v vs k))
live_delivered (in_object names vs ∷ k) s t v e =
    let there : Eats false s t (λ n. go (behind v (in_object names vs) k)) Anything = eats_next false s t (deliver v (in_object names vs ∷ k)) (λ n. go (behind v (in_object names vs) k)) Anything (λ n. refl) e in
    live_delivered k s (t ++ 125 ∷ []) (object (members_of names (vs ++ v ∷ []))) (eats_then false s (behind v (in_object names vs) k) t (125 ∷ []) (deliver (object (members_of names (vs ++ v ∷ []))) k) Anything there (object_end false v names vs k))

empty_text : IsText [] (34 ∷ 34 ∷ [])
empty_text = record { pieces = []; spelled = record { front = 34 ∷ []; back = 34 ∷ []; first = refl; second = record { front = []; back = 34 ∷ []; first = refl; second = refl; whole = refl }; whole = refl }; value = refl }

live_due : (k : List Frame) → Live (due k)
live_due k = live_delivered k (due k) (34 ∷ 34 ∷ []) (text []) (text_read false k [] (34 ∷ 34 ∷ []) empty_text)

live_colon : (names : List (List ℕ)) (vs : List Json) (n : List ℕ) (k : List Frame) → Live (colon_due names vs n k)
live_colon names vs n k = live_then (colon_due names vs n k) (due (in_object (names ++ n ∷ []) vs ∷ k)) (58 ∷ []) (colon_in false names vs n k) (live_due (in_object (names ++ n ∷ []) vs ∷ k))

live_name : (names : List (List ℕ)) (vs : List Json) (k : List Frame) → Live (name_due names vs k)
live_name names vs k = live_then (name_due names vs k) (colon_due names vs [] k) (34 ∷ 34 ∷ []) (name_read false (name_due names vs k) names vs k [] (34 ∷ 34 ∷ []) (quote_of_name false names vs k) refl empty_text) (live_colon names vs [] k)

-- ---- texts

live_closes : (role : Role) (k : List Frame) (out : List ℕ) (high : Option ℕ) → Live (in_text out high between role k)
unfolding step
live_closes as_value k out high = live_delivered k (in_text out high between as_value k) (34 ∷ []) (text (flushed out high)) (eats_byte false (in_text out high between as_value k) 34 (deliver (text (flushed out high)) k) (λ at. refl))
live_closes (as_name names vs from) k out high =
    live_then (in_text out high between (as_name names vs from) k) (colon_due names vs (flushed out high) k) (34 ∷ [])
    (eats_byte false (in_text out high between (as_name names vs from) k) 34 (λ n. go (colon_due names vs (flushed out high) k)) (λ at. refl))
    (live_colon names vs (flushed out high) k)

live_unit : (role : Role) (k : List Frame) (out : List ℕ) (high : Option ℕ) (place : Place) (b u : ℕ) → Waits high → step_text out high place b ≡ with_unit out high u → Live (in_text out high place role k)
live_unit role k out high place b u w e =
    let a = after_unit out high u [] w in
    live_then (in_text out high place role k) (in_text a.new a.new_high between role k) (b ∷ []) (eats_within false out a.new high a.new_high place between role k b (e ∙ a.is)) (live_closes role k a.new a.new_high)

digit_there : is_digit 48 16 ≡ true
digit_there = refl

live_hex : (role : Role) (k : List Frame) (out : List ℕ) (high : Option ℕ) (more u : ℕ) → Waits high → Live (in_text out high (hex more u) role k)
live_hex role k out high zero u w = live_unit role k out high (hex zero u) 48 (u * 16 + digit_value 48) w (ap (λ x. cond x (with_unit out high (u * 16 + digit_value 48)) no_text) digit_there)
live_hex role k out high (suc more) u w =
    live_then (in_text out high (hex (suc more) u) role k) (in_text out high (hex more (u * 16 + digit_value 48)) role k) (48 ∷ []) (hex_in false role k out high more u 48 digit_there) (live_hex role k out high more (u * 16 + digit_value 48) w)

live_tail : (role : Role) (k : List Frame) (out : List ℕ) (high : Option ℕ) (low top more : ℕ) → low ≤ top → Live (in_text out high (tail low top more) role k)
live_tail role k out high low top zero le =
    live_then (in_text out high (tail low top zero) role k) (in_text (out ++ low ∷ []) high between role k) (low ∷ []) (eats_within false out (out ++ low ∷ []) high high (tail low top zero) between role k low (tail_step out high low top zero low (omega arith) le)) (live_closes role k (out ++ low ∷ []) high)
live_tail role k out high low top (suc more) le =
    live_then (in_text out high (tail low top (suc more)) role k) (in_text (out ++ low ∷ []) high (tail 128 191 more) role k) (low ∷ []) (eats_within false out (out ++ low ∷ []) high high (tail low top (suc more)) (tail 128 191 more) role k low (tail_step out high low top (suc more) low (omega arith) le))
    (live_tail role k (out ++ low ∷ []) high 128 191 more (omega arith))

-- ---- numbers

-- a number that may end ends before a blank
blank_behind : (at : ℕ) (phase : Phase) (n : Numeral) (k : List Frame) → may_end phase ≡ true → step false at 32 (in_number phase n k) ≡ step_past at (number (numeral_value n)) k Blank
unfolding step
blank_behind at phase n k may =
    ap (λ m. step_in_number at k (kind_of 32) (step_number phase n m)) (mark-over 32 refl) ∙ ap (λ b. step_in_number at k (kind_of 32) (step_over b n)) may ∙ ap (step_past at (number (numeral_value n)) k) (blank-kind 32 refl)

live_ended : (phase : Phase) (n : Numeral) (k : List Frame) → may_end phase ≡ true → Live (in_number phase n k)
live_ended phase n [] may = record {
  more = 32 ∷ [];
  value = number (numeral_value n);
  place = λ m. m - 1;
  eaten = eats_byte false (in_number phase n []) 32 (λ m. stop (found (number (numeral_value n)) (m - 1))) (λ at. let e : at ≡ at + 1 - 1 = omega arith in blank_behind at phase n [] may ∙ ap (λ m. stop (found (number (numeral_value n)) m)) e);
}
live_ended phase n (f ∷ k) may =
    live_delivered (f ∷ k) (in_number phase n (f ∷ k)) (32 ∷ []) (number (numeral_value n))
    (eats_byte false (in_number phase n (f ∷ k)) 32 (deliver (number (numeral_value n)) (f ∷ k)) (λ at. blank_behind at phase n (f ∷ k) may ∙ behind_blank at (number (numeral_value n)) f k))

live_digit : (phase p : Phase) (n m : Numeral) (k : List Frame) → step_number phase n (Figure 0) ≡ goes_on p m → may_end p ≡ true → Live (in_number phase n k)
live_digit phase p n m k e may = live_then (in_number phase n k) (in_number p m k) (48 ∷ []) (eats_mark false phase p n m k 48 (Figure 0) (mark-digit 0 (omega arith)) e) (live_ended p m k may)

live_number : (phase : Phase) (n : Numeral) (k : List Frame) → Live (in_number phase n k)
live_number BeforeWhole n k = live_digit BeforeWhole AfterZero n (with_whole n 0) k refl refl
live_number AfterZero n k = live_ended AfterZero n k refl
live_number InWhole n k = live_ended InWhole n k refl
live_number AfterPoint n k = live_digit AfterPoint InFraction n (with_fraction n 0) k refl refl
live_number InFraction n k = live_ended InFraction n k refl
live_number AfterLetter n k = live_digit AfterLetter InPower n (with_power n 0) k refl refl
live_number AfterSign n k = live_digit AfterSign InPower n (with_power n 0) k refl refl
live_number InPower n k = live_ended InPower n k refl

-- ---- any state

live : (s : State) (p : List ℕ) → Reached s p → Live s
live (due k) p h = live_due k
live (opened_list k) p h = live_delivered k (opened_list k) (93 ∷ []) (list no_items) (empty_list false k)
live (behind v f k) p h = live_delivered (f ∷ k) (behind v f k) [] v (eats_next false (behind v f k) [] (λ n. go (behind v f k)) (deliver v (f ∷ k)) Anything (λ n. refl) (eats_none false (behind v f k)))
live (opened_object k) p h = live_delivered k (opened_object k) (125 ∷ []) (object no_members) (empty_object false k)
live (name_due names vs k) p h = live_name names vs k
live (colon_due names vs n k) p h = live_colon names vs n k
live (in_text out high between role k) p h = live_closes role k out high
live (in_text out high escape role k) p h = live_unit role k out high escape 34 34 h.second.second.first.stands.waits refl
live (in_text out high (hex more u) role k) p h = live_hex role k out high more u h.second.second.first.stands.waits
live (in_text out high (tail low top more) role k) p h = live_tail role k out high low top more h.second.second.1.some
live (in_number phase n k) p h = live_number phase n k
live (in_word [] v k) p h = absurd (let l = h.second.1 in omega arith)
live (in_word (c ∷ left) v k) p h = live_delivered k (in_word (c ∷ left) v k) (c ∷ left) v (eats_word false c left v k)

-- a text that was read goes on to one with a value
pub has_value : (s : State) (p : List ℕ) → Reached s p → (more : List ℕ) × HasValue (p ++ more)
has_value s p h =
    let l = live s p h in
    let walked : walk false (length p) s l.more ≡ stop (found l.value (l.place (length p + length l.more))) = ap (walk false (length p) s) (sym (append-nil l.more)) ∙ l.eaten.eats (length p) [] tt in
    let read : run false (length p) s l.more ≡ found l.value (l.place (length p + length l.more)) = run_is false l.more (length p) s ∙ ap (ended (length p + length l.more)) walked in
    (l.more, (l.value, l.place (length p + length l.more), subst (Right (p ++ l.more)) read (run_right false l.more (length p) s p refl h)))
