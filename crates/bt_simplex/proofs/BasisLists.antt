-- The list of a basis, position by position.
use Rattle.std.proofs.Common.{◌≡◌, zero, suc, ◌+◌, ◌<◌, arith, drop, List, ◌∷◌, ◌++◌, length, Option, Some, None, ap, ◌∙◌, refl, ℕ, []}
use Rattle.bt_linear_forms.specs.Lines.{Terms}
use Rattle.bt_pivot.specs.SolvedForms.{Slots, slot_at, basis_from, InBasis}

slot_next : (slots : Slots) (p : ℕ) → p < length slots → drop p slots ≡ slot_at slots p ∷ drop (suc p) slots
slot_next [] p h = absurd (omega arith)
slot_next (s ∷ slots) zero h = refl
slot_next (s ∷ slots) (suc p) h = slot_next slots p (omega arith)

slot_split : (slots : Slots) (p : ℕ) → p < length slots → drop p slots ≡ slot_at slots p ∷ drop (p + 1) slots
slot_split slots p h = slot_next slots p h ∙ ap (λ n. slot_at slots p ∷ drop n slots) (let e : suc p ≡ p + 1 = omega arith in e)

pub basis_some : (p : ℕ) (slots : Slots) → p < length slots → InBasis slots p → basis_from p (drop p slots) ≡ p ∷ basis_from (p + 1) (drop (p + 1) slots)
basis_some p slots h basic = ap (λ l. basis_from p l) (slot_split slots p h ∙ ap (λ s. s ∷ drop (p + 1) slots) basic.1)

pub basis_none : (p : ℕ) (slots : Slots) → p < length slots → (InBasis slots p → ⊥) → basis_from p (drop p slots) ≡ basis_from (p + 1) (drop (p + 1) slots)
basis_none p slots h out = ap (λ l. basis_from p l) (slot_split slots p h ∙ ap (λ s. s ∷ drop (p + 1) slots) (none (slot_at slots p) refl))
  where
    none : (o : Option Terms) → slot_at slots p ≡ o → slot_at slots p ≡ None
    none None e = e
    none (Some terms) e = absurd (out (terms, e))

pub push_more : (xs : List ℕ) (x : ℕ) (ys : List ℕ) → (xs ++ x ∷ []) ++ ys ≡ xs ++ x ∷ ys
push_more [] x ys = refl
push_more (z ∷ xs) x ys = ap (λ l. z ∷ l) (push_more xs x ys)
