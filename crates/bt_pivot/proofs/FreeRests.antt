-- Where positions rest while no row is bound.
use Rattle.std.proofs.Common.{◌≡◌, ◌-◌, ◌≤◌, Bool, true, false, nat_lt, if◌then◌else◌, List, length, replicate, get_or, Option, Some, None, IfSome, ap, sym, ◌∙◌, refl, subst, inl, inr, ℕ}
use Rattle.std.proofs.lemmas.Bool.{cases_lt}
use Rattle.std.proofs.lemmas.List.{get_or-replicate, get_or_past, length-replicate}
use Rattle.bt_frac.specs.Rows.{RowParts}
use Rattle.bt_farkas.specs.WeightedRows.{empty_row}
use Rattle.bt_pivot.specs.Points.{bound_row, value_or_zero, relation_of}
use Rattle.bt_pivot.specs.Tableaus.{TableauParts, IsTableau}
use Rattle.bt_pivot.specs.inner.Rests.{nowhere, IsRestOf, AreRests}
use Rattle.bt_pivot.specs.declared.rests.Rest.{Rest}

get_unbound : (n i : ℕ) → get_or (replicate n false) i false ≡ false
get_unbound n i = elim (cases_lt i n) [
  | inl inside ↦ get_or-replicate n i false false inside
  | inr past ↦ get_or_past (replicate n false) i false (subst (λ l. l ≤ i) (sym (length-replicate n false)) past)
]

no_row : (low bound : Bool) (row : RowParts) → bound ≡ false → (if low then None else if bound then Some row else None) ≡ None
no_row true bound row none = refl
no_row false bound row none = ap (λ b. if b then Some row else None) none

-- no row is bound
unbound_row : (t : TableauParts) (n : ℕ) → t.bound ≡ replicate n false → (p : ℕ) → bound_row t p ≡ None
unbound_row t n none p =
    no_row (nat_lt p t.columns) (get_or t.bound (p - t.columns) false) (get_or t.rows (p - t.columns) empty_row)
    (ap (λ l. get_or l (p - t.columns) false) none ∙ get_unbound n (p - t.columns))

free_rest : (n i : ℕ) (t : TableauParts) → bound_row t i ≡ None → IfSome (get_or (replicate n (Some nowhere)) i None) (IsRestOf (bound_row t i))
free_rest n i t none = elim (cases_lt i n) [
  | inl inside ↦ subst (λ o. IfSome o (IsRestOf (bound_row t i))) (sym (get_or-replicate n i (Some nowhere) None inside)) (ap value_or_zero none, sym (ap relation_of none))
  | inr past ↦ subst (λ o. IfSome o (IsRestOf (bound_row t i))) (sym (get_or_past (replicate n (Some nowhere)) i None (subst (λ l. l ≤ i) (sym (length-replicate n (Some nowhere))) past))) tt
]

-- every position rests nowhere
pub free_rests : (t : TableauParts) → IsTableau t → (n : ℕ) (rests : List (Option Rest)) → t.bound ≡ replicate n false → rests ≡ replicate (length t.slots) (Some nowhere) → AreRests t rests
free_rests t tableau n rests none are = (
  ap length are ∙ length-replicate (length t.slots) (Some nowhere) ∙ tableau.solved.positions,
  λ p. subst (λ l. IfSome (get_or l p None) (IsRestOf (bound_row t p))) (sym are) (free_rest (length t.slots) p t (unbound_row t n none p)),
)
