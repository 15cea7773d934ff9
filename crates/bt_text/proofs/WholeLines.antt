-- The last line feed of a text.
use Rattle.std.proofs.Common.{◌≡◌, ◌==◌, ℕ, suc, ◌+◌, ◌<◌, ◌≤◌, true, List, [], ◌∷◌, ◌++◌, length, take, drop, get_or, refl, sym, ◌∙◌, ap, inl, inr, arith, length-drop}
use Rattle.std.specs.Prelude.{slice_index}
use Rattle.std.proofs.lemmas.Bool.{eqb-true}
use Rattle.std.proofs.lemmas.Grind.{get_or_default_zero}
use Rattle.std.proofs.lemmas.List.{take-append-drop, get_or-drop}
use Rattle.std.proofs.Math.Seq.{take-suc}
use Rattle.bt_text.specs.Lines.{Lacks, line}
use Rattle.bt_text.specs.Whole.{EndsLines}

-- it is none of the bytes of a text
pub no_lines : (text : List ℕ) → ((k : ℕ) → 0 ≤ k → k < length text → (slice_index text k == 10) ≡ true → ⊥) → EndsLines text []
no_lines text none = record { rest = text; text_is = refl; whole = inl refl; lacks = λ i z lt same. none i (omega arith) lt (ap (λ b. b == 10) (sym (get_or_default_zero text i z lt) ∙ same)) }

-- it stands here
pub lines_to : (text : List ℕ) (at : ℕ) → at < length text → (slice_index text at == 10) ≡ true
    → ((k : ℕ) → at + 1 ≤ k → k < length text → (slice_index text k == 10) ≡ true → ⊥) → EndsLines text (take (at + 1) text)
lines_to text at within here none = record {
  rest = drop (at + 1) text;
  text_is = sym (take-append-drop (at + 1) text);
  whole = inr (take at text, front_line);
  lacks = later;
}
  where
    one : at + 1 ≡ suc at
    one = omega arith

    front_line : take (at + 1) text ≡ line (take at text)
    front_line = ap (λ n. take n text) one ∙ take-suc text at 0 within ∙ ap (λ b. take at text ++ b ∷ []) (eqb-true (get_or text at 0) 10 here)

    later : Lacks 10 (drop (at + 1) text)
    later i z lt same =
        let long : at + 1 + i < length text = omega (arith, length-drop (at + 1) text) in
        none (at + 1 + i) (omega arith) long (ap (λ b. b == 10) (sym (get_or_default_zero text (at + 1 + i) z long) ∙ sym (get_or-drop (at + 1) text i z) ∙ same))
