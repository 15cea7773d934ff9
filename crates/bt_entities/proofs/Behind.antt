-- Texts that are added one behind another.
use Rattle.std.proofs.Common.{◌≡◌, ℕ, List, ◌++◌, ◌∙◌, ap, append_assoc}

-- what was added behind a text, and then what was added behind that
pub behind : (old now next a b : List ℕ) → now ≡ old ++ a → next ≡ now ++ b → next ≡ old ++ (a ++ b)
behind old now next a b one two = two ∙ ap (λ t. t ++ b) one ∙ append_assoc old a b

-- three pieces
three_behind : (old x y z a b c : List ℕ) → x ≡ old ++ a → y ≡ x ++ b → z ≡ y ++ c → z ≡ old ++ (a ++ b ++ c)
three_behind old x y z a b c one two three = behind old y z (a ++ b) c (behind old x y a b one two) three

-- four pieces
four_behind : (old x y z w a b c d : List ℕ) → x ≡ old ++ a → y ≡ x ++ b → z ≡ y ++ c → w ≡ z ++ d → w ≡ old ++ (a ++ b ++ c ++ d)
four_behind old x y z w a b c d one two three four = behind old z w (a ++ b ++ c) d (three_behind old x y z a b c one two three) four

-- five pieces
pub five_behind : (old x y z w v a b c d e : List ℕ) → x ≡ old ++ a → y ≡ x ++ b → z ≡ y ++ c → w ≡ z ++ d → v ≡ w ++ e → v ≡ old ++ (a ++ b ++ c ++ d ++ e)
five_behind old x y z w v a b c d e one two three four five = behind old w v (a ++ b ++ c ++ d) e (four_behind old x y z w a b c d one two three four) five

-- six pieces
pub six_behind : (old x y z w v u a b c d e f : List ℕ) → x ≡ old ++ a → y ≡ x ++ b → z ≡ y ++ c → w ≡ z ++ d → v ≡ w ++ e → u ≡ v ++ f → u ≡ old ++ (a ++ b ++ c ++ d ++ e ++ f)
six_behind old x y z w v u a b c d e f one two three four five six =
    behind old v u (a ++ b ++ c ++ d ++ e) f (five_behind old x y z w v a b c d e one two three four five) six

-- a number and a name of two pieces, each with what stands around it
pub number_and_name : (a n b p s q : List ℕ) → a ++ n ++ b ++ p ++ s ++ q ≡ (a ++ n) ++ (b ++ (p ++ s) ++ q)
number_and_name a n b p s q = simp append_assoc

-- the members of an entity, with what stands before it
pub entity_parts : (c n m p d k t : List ℕ) → c ++ (n ++ m) ++ p ++ d ++ k ++ t ≡ c ++ (n ++ m ++ p ++ d ++ k ++ t)
entity_parts c n m p d k t = simp append_assoc
