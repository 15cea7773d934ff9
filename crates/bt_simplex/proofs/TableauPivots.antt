-- A pivot of a tableau, of which only the slots change.
use Rattle.std.proofs.Common.{◌≡◌, ◌≢◌, List, Option, Some, None, ap, sym, ◌∙◌, refl, subst, ◌⊎◌, inl, inr, ℕ}
use Rattle.bt_frac.specs.Rows.{RowParts}
use Rattle.bt_linear_forms.specs.Lines.{Terms}
use Rattle.bt_pivot.specs.SolvedForms.{Slots, slot_at, IsOutside, IsSolvedForm, InBasis}
use Rattle.bt_pivot.specs.Tableaus.{TableauParts, IsTableau}
use Rattle.bt_simplex.specs.Pivots.{IsPivotedBy}
use Rattle.bt_simplex.specs.inner.Runs.{CanPivot}
use Rattle.bt_pivot.specs.declared.basis.Pivot.{Pivot}
use Rattle.bt_linear_forms.specs.Substituting.{IsSubstituted}
use Rattle.bt_pivot.specs.PivotedSlots.{IsPivoted}
use Rattle.bt_linear_forms.proofs.Indicators.{decide}
use Rattle.bt_linear_forms.proofs.Zeros.{named_has}
use Rattle.bt_pivot.proofs.Pivoted.{was, not_leaving, pivot_solves}

pub enters_outside : (rows : List RowParts) (columns : ℕ) (slots : Slots) (pivot : Pivot) → IsSolvedForm rows columns slots → CanPivot slots pivot → IsOutside slots pivot.enters
enters_outside rows columns slots pivot form can =
    named_has (λ q. IsOutside slots q) pivot.enters can.0 can.2.0 (form.lines pivot.leaves can.0 can.1).1 can.2.1

pub leaves_apart : (rows : List RowParts) (columns : ℕ) (slots : Slots) (pivot : Pivot) → IsSolvedForm rows columns slots → CanPivot slots pivot → pivot.leaves ≢ pivot.enters
leaves_apart rows columns slots pivot form can same =
    let out = enters_outside rows columns slots pivot form can in
    let none : Some can.0 ≡ None = sym can.1 ∙ ap (λ n. slot_at slots n) same ∙ out.outside in
    absurd cc

still_some : (enters : ℕ) (line terms : Terms) (new : Option Terms) → IsSubstituted enters line (Some terms) new → (terms' : Terms) × (new ≡ Some terms')
still_some enters line terms new (inl h) = (terms, h.1)
still_some enters line terms new (inr h) = (h.2.0, h.2.1)

module _ (t : TableauParts) (pivot : Pivot) (slots' : Slots) (tableau : IsTableau t) (can : CanPivot t.slots pivot) (made : IsPivoted t.slots pivot.leaves pivot.enters slots') where
  apart : pivot.leaves ≢ pivot.enters
  apart = leaves_apart t.rows t.columns t.slots pivot tableau.solved can

  solved : IsSolvedForm t.rows t.columns slots'
  solved = pivot_solves t.rows t.columns t.slots pivot.leaves pivot.enters slots' apart tableau.rows made tableau.solved

  pub pivoted_tableau : IsTableau (record t { slots = slots' })
  pivoted_tableau = record { rows = tableau.rows; over = tableau.over; bound = tableau.bound; solved = solved }

  forth : (p : ℕ) → InBasis slots' p → (p ≡ pivot.enters) ⊎ (InBasis t.slots p × (p ≢ pivot.leaves))
  forth p basic = elim (decide p pivot.enters) [
    | inl same ↦ inl same
    | inr other ↦
        let leaving = tableau.solved.lines pivot.leaves made.terms made.leaving in
        let old = was t.slots pivot.leaves pivot.enters slots' made apart leaving.0 leaving.1 p basic.0 other basic.1 in
        inr ((old.0, old.1), not_leaving t.slots pivot.leaves pivot.enters slots' made apart leaving.0 leaving.1 p basic.0 basic.1)
  ]

  entered : (p : ℕ) → p ≡ pivot.enters → InBasis slots' p
  entered p same = (made.entering, ap (λ n. slot_at slots' n) same ∙ made.entered)

  from : (p : ℕ) → (p ≡ pivot.enters) ⊎ (InBasis t.slots p × (p ≢ pivot.leaves)) → InBasis slots' p
  from p (inl same) = entered p same
  from p (inr stays) = elim (decide p pivot.enters) [
    | inl same ↦ entered p same
    | inr other ↦
        still_some pivot.enters made.zero stays.0.0 (slot_at slots' p)
        (subst (λ old. IsSubstituted pivot.enters made.zero old (slot_at slots' p)) stays.0.1 (made.others p stays.1 other))
  ]

  pub pivoted_by : IsPivotedBy pivot t (record t { slots = slots' })
  pivoted_by = record { stays = refl; solved = solved; basis = λ p. (forth p, from p) }
