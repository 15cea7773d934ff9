-- Texts that are written in pieces.
use Rattle.std.proofs.Common.{◌≡◌, ℕ, List, [], ◌∷◌, ◌++◌}
use Rattle.std.specs.Prelude.{codes}
use Rattle.std.proofs.lemmas.List.{append_assoc}

-- three words behind a word
pub three : (head a b c : List ℕ) → head ++ (a ++ 32 ∷ (b ++ 32 ∷ (c ++ 10 ∷ []))) ≡ head ++ a ++ 32 ∷ [] ++ b ++ 32 ∷ [] ++ c ++ 10 ∷ []
three head a b c = simp append_assoc

-- and a last line
pub three_and_end : (head a b c : List ℕ) → head ++ (a ++ 32 ∷ (b ++ 32 ∷ (c ++ 10 ∷ codes "end\n"))) ≡ head ++ a ++ 32 ∷ [] ++ b ++ 32 ∷ [] ++ c ++ 10 ∷ [] ++ codes "end\n"
three_and_end head a b c = simp append_assoc
