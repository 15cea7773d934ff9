-- The lines of a piece, one after another.
use Rattle.std.proofs.Common.{◌≡◌, ℕ, ◌+◌, ◌<◌, ◌≤◌, List, [], ◌∷◌, ◌++◌, length, refl, sym, ◌∙◌, ap, subst, arith, append_assoc, append-nil, length-append}
use Rattle.bt_text.specs.Lines.{SplitsAt}
use Rattle.bt_cert.specs.inner.Stages.{Progress, ReadsOn, HasRead}
use Rattle.bt_cert.specs.declared.stage.Stage.TheVariants.{Steps, Blanks}
use Rattle.bt_cert.proofs.Stages.{reads_both, rest_dropped}

-- the front of a piece was read, and this is the rest
pub record HasTaken (first : Progress) (piece : List ℕ) (p : Progress) (rest : List ℕ) : Type 0 where
  pub front : List ℕ
  pub piece_is : piece ≡ front ++ rest
  pub reads : ReadsOn first front p
  pub lines : p.line + length rest ≤ first.line + length piece

pub taken_none : (p : Progress) (piece : List ℕ) → HasTaken p piece p piece
taken_none p piece = record {
  front = [];
  piece_is = refl;
  reads = record { formula = refl; read = λ start text read. subst (λ t. HasRead start t p) (sym (append-nil text)) read };
  lines = omega arith;
}

pub taken_line : (first : Progress) (piece : List ℕ) (p q : Progress) (rest line after : List ℕ) → HasTaken first piece p rest → SplitsAt 10 rest line after
    → ReadsOn p (line ++ 10 ∷ []) q → q.line ≤ p.line + 1 → HasTaken first piece q after
taken_line first piece p q rest line after h split reads lines = record {
  front = h.front ++ (line ++ 10 ∷ []);
  piece_is = h.piece_is ∙ ap (λ r. h.front ++ r) (split.text_is ∙ sym (append_assoc line (10 ∷ []) after)) ∙ sym (append_assoc h.front (line ++ 10 ∷ []) after);
  reads = reads_both first p q h.front (line ++ 10 ∷ []) h.reads reads;
  lines = omega (arith, h.lines, ap length split.text_is, length-append line (10 ∷ after));
}

pub taken_all : (first : Progress) (piece : List ℕ) (p q : Progress) (rest : List ℕ) → HasTaken first piece p rest → ReadsOn p rest q → ReadsOn first piece q
taken_all first piece p q rest h reads = subst (λ t. ReadsOn first t q) (sym h.piece_is) (reads_both first p q h.front rest h.reads reads)

pub taken_dropped : (first : Progress) (piece : List ℕ) (p : Progress) (rest : List ℕ) → HasTaken first piece p rest → (p.stage ≡ Steps → ⊥) → (p.stage ≡ Blanks → ⊥)
    → ReadsOn first piece p
taken_dropped first piece p rest h no_steps no_blanks = subst (λ t. ReadsOn first t p) (sym h.piece_is) (rest_dropped first p h.front rest no_steps no_blanks h.reads)

pub shorter : (rest line after : List ℕ) → SplitsAt 10 rest line after → length after < length rest
shorter rest line after split = omega (arith, ap length split.text_is, length-append line (10 ∷ after))
