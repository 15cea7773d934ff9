-- The sums of classes' lines that are kept from pivot to pivot.
use Rattle.std.specs.Prelude.{◌≡◌, ◌≢◌, ◌⊎◌, ◌<◌, ◌^◌, false, List, length, Option, Some, None, IfSome, slice_index_or, ℕ}
use Rattle.bt_pivot.specs.Classes.{member_at}
use Rattle.bt_linear_forms.specs.Lines.{Terms}
use Rattle.bt_pivot.specs.Points.{resting, standing, IsSamePoint}
use Rattle.bt_pivot.specs.SolvedForms.{Slots, slot_at}
use Rattle.bt_pivot.specs.Tableaus.{TableauParts}
use Rattle.bt_pivot.specs.declared.basis.Member.{Member}
use Rattle.bt_linear_forms.specs.declared.short.merging.Scales.{Scales}
use Rattle.bt_pivot.specs.declared.short_points.ClassSums.{ClassSums}
use Rattle.bt_pivot.specs.declared.short_points.Sums.{Sums}
use Rattle.bt_pivot.specs.inner.Carrying.{IsCarriedOf}
use Rattle.bt_pivot.specs.Sums.{delta_of, SumsList}

-- the sums of this line of a first position
pub record IsFormed (t : TableauParts) (first : ℕ) (terms : Terms) (sums : ClassSums) : Type 0 where
  pub first_is : sums.first ≡ first
  pub fits : sums.sums.under < 2 ^ 31
  pub same : IsSamePoint (delta_of sums.sums) (standing (resting t) 0 (Some terms))

-- these sums are kept, and else such as were kept before
abbrev pub Keeps : ClassSums → SumsList → SumsList → Type 0
Keeps sums kept kept' = (class : ℕ) → IfSome (slice_index_or kept' class None) (λ k. (k ≡ sums) ⊎ (slice_index_or kept class None ≡ Some k))

-- what is kept was kept before, and not of this class
abbrev pub Forgets : ℕ → SumsList → SumsList → Type 0
Forgets left kept kept' = (class : ℕ) → IfSome (slice_index_or kept' class None) (λ k. (slice_index_or kept class None ≡ Some k) × (class ≢ left))

-- what is kept was kept before, of another class, or it is carried from what was kept of this one
abbrev pub Carries : ℕ → Option Sums → Scales → SumsList → SumsList → Type 0
Carries here others scales kept kept' =
    (class : ℕ) → IfSome (slice_index_or kept' class None) (λ k. ((slice_index_or kept class None ≡ Some k) × (class ≢ here)) ⊎ ((class ≡ here) × IsCarriedOf (slice_index_or kept class None) others scales k))

-- the sums are kept for a position of this class with the sign of its first one
abbrev pub IsOwn : List Member → ℕ → ClassSums → Type 0
IsOwn members class k = (k.first < length members) × (member_at members k.first ≡ record { class = class; negated = false })

-- what is kept was kept before, of this class for a first position of it
abbrev pub OwnsAt : List Member → ℕ → SumsList → SumsList → Type 0
OwnsAt members here kept kept' =
    (class : ℕ) → IfSome (slice_index_or kept' class None) (λ k. (slice_index_or kept class None ≡ Some k) × (class ≡ here → IsOwn members class k))

-- what is kept was kept before, for a first position of its class
abbrev pub AreOwn : List Member → SumsList → SumsList → Type 0
AreOwn members kept kept' = (class : ℕ) → IfSome (slice_index_or kept' class None) (λ k. (slice_index_or kept class None ≡ Some k) × IsOwn members class k)

-- where the first sums are those of this line, the others are those of the line after it
pub record AreMoved (t : TableauParts) (slot slot' : Option Terms) (before after : ClassSums) : Type 0 where
  pub first_is : after.first ≡ before.first
  pub terms : Terms
  pub slot_is : slot ≡ Some terms
  pub terms_after : Terms
  pub slot_after : slot' ≡ Some terms_after
  pub fits : after.sums.under < 2 ^ 31
  pub moved : IsSamePoint (delta_of before.sums) (standing (resting t) 0 (Some terms)) → IsSamePoint (delta_of after.sums) (standing (resting t) 0 (Some terms_after))

-- neither the slot nor its sums have changed, or both have
abbrev pub AreFollowed : TableauParts → Option Terms → Option Terms → ClassSums → ClassSums → Type 0
AreFollowed t slot slot' before after = ((slot' ≡ slot) × (after ≡ before)) ⊎ AreMoved t slot slot' before after

-- what is kept follows what was kept before, as the lines do
abbrev pub LinesStay : TableauParts → Slots → Slots → SumsList → SumsList → Type 0
LinesStay t lines lines' kept kept' =
    (class : ℕ) → IfSome (slice_index_or kept' class None) (λ after. (before : ClassSums) × (slice_index_or kept class None ≡ Some before) × AreFollowed t (slot_at lines class) (slot_at lines' class) before after)

-- the same, and it is not of this class
abbrev pub OthersStay : TableauParts → ℕ → Slots → Slots → SumsList → SumsList → Type 0
OthersStay t left lines lines' kept kept' =
    (class : ℕ)
    → IfSome (slice_index_or kept' class None) (λ after. (before : ClassSums) × (slice_index_or kept class None ≡ Some before) × (class ≢ left) × AreFollowed t (slot_at lines class) (slot_at lines' class) before after)
