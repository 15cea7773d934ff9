-- Texts that are written in pieces.
use Rattle.std.proofs.Common.{◌≡◌, ℕ, List, [], ◌∷◌, ◌++◌}
use Rattle.std.proofs.lemmas.List.{append_assoc, append-nil}

-- three words behind a word
pub three : (head a b c : List ℕ) → head ++ (a ++ 32 ∷ (b ++ 32 ∷ (c ++ []))) ≡ head ++ a ++ 32 ∷ [] ++ b ++ 32 ∷ [] ++ c
three head a b c = simp (append_assoc, append-nil)

-- two words behind a word, and the end of the line
pub two : (head a b : List ℕ) → head ++ (a ++ 32 ∷ (b ++ 10 ∷ [])) ≡ head ++ a ++ 32 ∷ [] ++ b ++ 10 ∷ []
two head a b = simp append_assoc

-- a term: its coefficient, and its column, which is a letter and a number
pub product : (a b c : List ℕ) → 32 ∷ (a ++ 42 ∷ (b ++ (c ++ []))) ≡ 32 ∷ (a ++ 42 ∷ [] ++ (b ++ c))
product a b c = simp (append_assoc, append-nil)
