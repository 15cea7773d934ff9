-- What stands alone in bytes, and stands at the front where a line feed and a text follow.
use Rattle.std.proofs.Common.{◌≡◌, ◌≢◌, ◌⊎◌, ℕ, ◌+◌, ◌<◌, ◌≤◌, List, [], ◌∷◌, ◌++◌, length, drop, Result, Ok, refl, sym, ◌∙◌, ap, subst, inl, inr, arith, length-append}
use Rattle.std.specs.Prelude.{All, slice_index}
use Rattle.std.proofs.lemmas.List.{append_assoc, append-nil, drop-append-le}
use Rattle.std.proofs.lemmas.List.Elements.{All-nil, All-cons, All-append}
use Rattle.std.proofs.Math.Seq.{drop-append_seam}
use Rattle.bt_text.specs.Blanks.{IsBlank, SkipsBlanks}
use Rattle.bt_text.specs.Lines.{line}
use Rattle.bt_designs.specs.declared.fault.DesignFault.{DesignFault}
use Rattle.bt_designs.specs.declared.fault.DesignFault.TheVariants as design
use Rattle.bt_designs.specs.Alone.{IsAlone}
use Rattle.bt_designs.specs.Steps.{stopped, went_on}
use Rattle.bt_designs.proofs.InTurns.{same_value, not_both}

-- what stands before an empty rest is blank
all_blank : (bytes : List ℕ) → SkipsBlanks bytes [] → All IsBlank bytes
all_blank bytes s = subst (All IsBlank) (sym (s.text_is ∙ append-nil s.blanks)) s.are_blanks

module _ {X : Type 0} (IsFront : List ℕ → Result (X × ℕ) DesignFault → Type 0) where
  -- this stands at the front of the bytes, and only blanks follow it
  pub record StandsAlone (bytes : List ℕ) (x : X) : Type 0 where
    pub used : ℕ
    pub front : IsFront bytes (Ok (x, used))
    pub blanks : SkipsBlanks (drop used bytes) []

  pub stands_alone : (bytes : List ℕ) (x : X) → IsAlone IsFront bytes (Ok x) → StandsAlone bytes x
  stands_alone bytes x (stopped fault h e) = absurd (not_both x fault e)
  stands_alone bytes x (went_on found h (text, skips, inl (none, e))) = record {
    used = found.1;
    front = subst (λ y. IsFront bytes (Ok (y, found.1))) (sym (same_value x found.0 e)) h;
    blanks = subst (SkipsBlanks (drop found.1 bytes)) none skips;
  }
  stands_alone bytes x (went_on found h (text, skips, inr (some, r, at, e))) = absurd (not_both x (design.Refused r) e)

  -- where a line feed and this text follow the bytes, this stands at the front, and the text follows it and blanks
  pub record IsFollowed (bytes text : List ℕ) (x : X) : Type 0 where
    pub used : ℕ
    pub front : IsFront (bytes ++ 10 ∷ text) (Ok (x, used))
    pub rest : SkipsBlanks (drop used (bytes ++ 10 ∷ text)) text

  module _ (bytes text : List ℕ) (x : X) (starts : 0 < length text → IsBlank (slice_index text 0) → ⊥) where
    pub is_followed : (used : ℕ) → IsFront bytes (Ok (x, used)) → used ≤ length bytes → SkipsBlanks (drop used bytes) []
        → ((more : List ℕ) → IsFront (bytes ++ more) (Ok (x, used))) ⊎ ((used ≡ length bytes) × ((more : List ℕ) → IsFront (bytes ++ 10 ∷ more) (Ok (x, used + 1))))
        → IsFollowed bytes text x
    is_followed used h within blanks (inl stays) = record {
      used = used;
      front = stays (10 ∷ text);
      rest = record {
        blanks = drop used bytes ++ 10 ∷ [];
        are_blanks = All-append IsBlank (drop used bytes) (10 ∷ []) (all_blank (drop used bytes) blanks) (All-cons IsBlank 10 [] (inr (inr (inl refl))) (All-nil IsBlank));
        text_is = drop-append-le used bytes (10 ∷ text) within ∙ sym (append_assoc (drop used bytes) (10 ∷ []) text);
        no_more = starts;
      };
    }
    is_followed used h within blanks (inr (all, fed)) =
        let long : used + 1 ≡ length (line bytes) = omega (arith, all, length-append bytes (10 ∷ [])) in
        let rest : drop (used + 1) (bytes ++ 10 ∷ text) ≡ text =
        ap (drop (used + 1)) (sym (append_assoc bytes (10 ∷ []) text)) ∙ ap (λ m. drop m (line bytes ++ text)) long ∙ drop-append_seam (line bytes) text in
        record {
          used = used + 1;
          front = fed text;
          rest = record { blanks = []; are_blanks = All-nil IsBlank; text_is = rest; no_more = starts };
        }

-- a byte that is none of the four is no blank
pub other_than : (byte : ℕ) → byte ≢ 32 → byte ≢ 9 → byte ≢ 10 → byte ≢ 13 → IsBlank byte → ⊥
other_than byte a b c d (inl e) = a e
other_than byte a b c d (inr (inl e)) = b e
other_than byte a b c d (inr (inr (inl e))) = c e
other_than byte a b c d (inr (inr (inr e))) = d e
