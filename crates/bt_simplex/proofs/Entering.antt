-- The least position that terms name with a property, by a walk over a line.
use Rattle.std.proofs.Common.{◌≡◌, ◌≢◌, ◌+◌, ◌<◌, ◌≤◌, arith, length, get_or, drop, ◌∷◌, Some, None, sym, ◌∙◌, refl, subst, inl, inr, ℕ, []}
use Rattle.std.proofs.lemmas.List.{drop_all}
use Rattle.bt_frac.specs.Ratio.{Ratio}
use Rattle.bt_farkas.specs.WeightedRows.{coefficient_at}
use Rattle.bt_linear_forms.specs.Lines.{Terms, IsLineFrom}
use Rattle.bt_simplex.specs.Pivots.{IsLeast}
use Rattle.bt_simplex.specs.inner.Bases.{Names}
use Rattle.bt_linear_forms.proofs.Indicators.{decide}
use Rattle.bt_linear_forms.proofs.Totals.{rest_line}
use Rattle.bt_linear_forms.proofs.NamedTerms.{number_here, number_later, named_from, drop_here}

-- what has the property is named in what is left of a line, with the numbers of the whole line
pub record IsAhead (P : ℕ → Ratio → Type 0) (terms left : Terms) : Type 0 where
  pub ahead : (q : ℕ) (number : Ratio) → coefficient_at q terms ≡ Some number → P q number → coefficient_at q left ≡ Some number
  pub named : (q : ℕ) (number : Ratio) → coefficient_at q left ≡ Some number → coefficient_at q terms ≡ Some number
  pub least : ℕ
  pub line : IsLineFrom least left

pub ahead_start : (P : ℕ → Ratio → Type 0) (terms : Terms) → IsLineFrom 0 terms → IsAhead P terms terms
ahead_start P terms line = record { ahead = λ q number names has. names; named = λ q number names. names; least = 0; line = line }

-- a term without the property is passed
pub ahead_more : (P : ℕ → Ratio → Type 0) (terms : Terms) (t : ℕ × Ratio) (rest : Terms) → IsAhead P terms (t ∷ rest) → (P t.0 t.1 → ⊥) → IsAhead P terms rest
ahead_more P terms t rest so_far lacks =
    let line = rest_line so_far.least t rest so_far.line in
    record { ahead = passed; named = λ q number names. so_far.named q number (number_later t rest q (other q number names) ∙ names); least = t.0 + 1; line = line }
  where
    passed : (q : ℕ) (number : Ratio) → coefficient_at q terms ≡ Some number → P q number → coefficient_at q rest ≡ Some number
    passed q number names has = elim (decide t.0 q) [
      | inl same ↦
          let is : Some t.1 ≡ Some number = sym (number_here t rest q same) ∙ so_far.ahead q number names has in
          let number_is : number ≡ t.1 = cc in
          absurd (lacks (subst (λ n. P t.0 n) number_is (subst (λ p. P p number) (sym same) has)))
      | inr apart ↦ sym (number_later t rest q apart) ∙ so_far.ahead q number names has
    ]

    other : (q : ℕ) (number : Ratio) → coefficient_at q rest ≡ Some number → t.0 ≢ q
    other q number names same =
        let after : t.0 + 1 ≤ q = named_from q (t.0 + 1) rest number (rest_line so_far.least t rest so_far.line) names in
        omega arith

-- the first term with the property is the least position
ahead_least : (P : ℕ → Ratio → Type 0) (terms : Terms) (t : ℕ × Ratio) (rest : Terms) → IsAhead P terms (t ∷ rest) → P t.0 t.1 → IsLeast (λ q. Names terms P q) t.0
ahead_least P terms t rest so_far has = ((t.1, so_far.named t.0 t.1 (number_here t rest t.0 refl), has), λ q names. first q names.0 (so_far.ahead q names.0 names.1 names.2))
  where
    first : (q : ℕ) (number : Ratio) → coefficient_at q (t ∷ rest) ≡ Some number → t.0 ≤ q
    first q number names = elim (decide t.0 q) [
      | inl same ↦ omega arith
      | inr apart ↦
          let after : t.0 + 1 ≤ q = named_from q (t.0 + 1) rest number (rest_line so_far.least t rest so_far.line) (sym (number_later t rest q apart) ∙ names) in
          omega arith
    ]

-- nothing has the property where nothing is left
ahead_none : (P : ℕ → Ratio → Type 0) (terms : Terms) → IsAhead P terms [] → (q : ℕ) → Names terms P q → ⊥
ahead_none P terms so_far q names = let none : None ≡ Some names.0 = so_far.ahead q names.0 names.1 names.2 in cc

-- the same at a place of the walk
pub entering_more : (P : ℕ → Ratio → Type 0) (terms : Terms) (i : ℕ) (t : ℕ × Ratio) → i < length terms → t ≡ get_or terms i t → IsAhead P terms (drop i terms) → (P t.0 t.1 → ⊥)
    → IsAhead P terms (drop (i + 1) terms)
entering_more P terms i t inside is so_far lacks = ahead_more P terms t (drop (i + 1) terms) (subst (λ l. IsAhead P terms l) (drop_here terms i t inside is) so_far) lacks

pub entering_here : (P : ℕ → Ratio → Type 0) (terms : Terms) (i : ℕ) (t : ℕ × Ratio) → i < length terms → t ≡ get_or terms i t → IsAhead P terms (drop i terms) → P t.0 t.1
    → IsLeast (λ q. Names terms P q) t.0
entering_here P terms i t inside is so_far has = ahead_least P terms t (drop (i + 1) terms) (subst (λ l. IsAhead P terms l) (drop_here terms i t inside is) so_far) has

pub entering_none : (P : ℕ → Ratio → Type 0) (terms : Terms) (i : ℕ) → length terms ≤ i → IsAhead P terms (drop i terms) → (q : ℕ) → Names terms P q → ⊥
entering_none P terms i past so_far = ahead_none P terms (subst (λ l. IsAhead P terms l) (drop_all i terms past) so_far)
