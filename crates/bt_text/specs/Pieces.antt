-- Pieces of a text, each behind a byte that separates them.
use Rattle.std.specs.Prelude.{◌≡◌, ℕ, ◌⊎◌, List, [], ◌∷◌, ◌++◌}
use Rattle.bt_text.specs.Lines.{Lacks}

-- a rest is empty or begins with the byte
abbrev pub BeginsWith : ℕ → List ℕ → Type 0
BeginsWith byte rest = (rest ≡ []) ⊎ ((more : List ℕ) × (rest ≡ byte ∷ more))

-- the text is a piece without the byte, and a rest that is empty or begins with the byte
pub record CutsAt (byte : ℕ) (text piece rest : List ℕ) : Type 0 where
  pub lacks : Lacks byte piece
  pub text_is : text ≡ piece ++ rest
  pub begins : BeginsWith byte rest

-- the text is the byte, a piece without it, and a rest that is empty or begins with the byte
pub record LeadsTo (byte : ℕ) (text piece rest : List ℕ) : Type 0 where
  pub lacks : Lacks byte piece
  pub text_is : text ≡ byte ∷ (piece ++ rest)
  pub begins : BeginsWith byte rest
