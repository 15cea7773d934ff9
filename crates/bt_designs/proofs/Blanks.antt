-- What follows the blanks of a text is one.
use Rattle.std.proofs.Common.{◌≡◌, ◌<◌, ℕ, List, [], ◌∷◌, ◌++◌, All, refl, sym, subst, ◌∙◌, length, slice_index, suc, arith}
use Rattle.bt_text.specs.Blanks.{IsBlank, SkipsBlanks}

-- what follows blanks is one text
after_blanks : (a b x y : List ℕ) → All IsBlank a → All IsBlank b → (0 < length x → IsBlank (slice_index x 0) → ⊥)
    → (0 < length y → IsBlank (slice_index y 0) → ⊥) → a ++ x ≡ b ++ y → x ≡ y
after_blanks [] [] x y p q h k e = e
after_blanks [] (c ∷ b) x y p q h k e = absurd (subst (λ z. (0 < length z → IsBlank (slice_index z 0) → ⊥)) e h (omega arith) (q 0 0 (omega arith)))
after_blanks (c ∷ a) [] x y p q h k e = absurd (subst (λ z. (0 < length z → IsBlank (slice_index z 0) → ⊥)) (sym e) k (omega arith) (p 0 0 (omega arith)))
after_blanks (c ∷ a) (d ∷ b) x y p q h k e =
    after_blanks a b x y (λ i z lt. p (suc i) z (omega arith)) (λ i z lt. q (suc i) z (omega arith)) h k (cc)

-- a text of no byte
pub nil_of : (text : List ℕ) → length text ≡ 0 → text ≡ []
nil_of [] e = refl
nil_of (b ∷ text) e = absurd (omega arith)

-- what follows the blanks of a text is one text
pub one_rest : (bytes x y : List ℕ) → SkipsBlanks bytes x → SkipsBlanks bytes y → x ≡ y
one_rest bytes x y s t = after_blanks s.blanks t.blanks x y s.are_blanks t.are_blanks s.no_more t.no_more (sym s.text_is ∙ t.text_is)
