-- The slots of a pivot and the sums that are kept of them, after one more slot.
use Rattle.std.proofs.Common.{◌≡◌, ◌+◌, ◌<◌, arith, length, length-set, set, get_or, Option, Some, None, IfSome, inl, inr, sym, ◌∙◌, refl, subst, ℕ}
use Rattle.std.proofs.lemmas.List.{get_or_default, get_or-set_other, get_or-set_same, set-get_or}
use Rattle.bt_linear_forms.specs.Lines.{Terms}
use Rattle.bt_pivot.specs.Points.{resting, standing, IsSamePoint}
use Rattle.bt_pivot.specs.SolvedForms.{Slots, slot_at}
use Rattle.bt_pivot.specs.Tableaus.{TableauParts, IsTableau}
use Rattle.bt_linear_forms.specs.declared.short.merging.Change.TheVariants.{Lacks, Made, Long}
use Rattle.bt_linear_forms.specs.declared.short.merging.Scales.{Scales}
use Rattle.bt_pivot.specs.declared.short_points.Sums.{Sums}
use Rattle.bt_linear_forms.specs.Changes.{IsChange, IsScaled}
use Rattle.bt_pivot.specs.Sums.{SumsList, delta_of}
use Rattle.bt_pivot.specs.inner.SumCache.{Carries, Forgets, LinesStay}
use Rattle.bt_linear_forms.specs.Substituting.{IsSubstituted}
use Rattle.bt_linear_forms.proofs.Indicators.{decide}
use Rattle.bt_pivot.proofs.KeptSums.{lines_carried, lines_set}
use Rattle.bt_pivot.proofs.Substitutions.{ArePartlySubstituted}

-- one more slot is changed
partly_more : (enters : ℕ) (zero : Terms) (slots slots' : Slots) (i : ℕ) (new : Option Terms) → i < length slots' → ArePartlySubstituted enters zero slots slots' i → IsSubstituted enters zero (slot_at slots' i) new
    → ArePartlySubstituted enters zero slots (set slots' i new) (i + 1)
partly_more enters zero slots slots' i new inside partly is = record {
  same_length = length-set slots' i new ∙ partly.same_length;
  before = λ p less. elim (decide p i) [
    | inl same ↦
        subst (λ q. IsSubstituted enters zero (slot_at slots q) (slot_at (set slots' i new) q)) (sym same)
        (subst (λ s. IsSubstituted enters zero (slot_at slots i) s) (sym (get_or-set_same slots' i new None inside))
        (subst (λ s. IsSubstituted enters zero s new) (partly.after i (omega arith)) is))
    | inr apart ↦
        subst (λ s. IsSubstituted enters zero (slot_at slots p) s) (sym (get_or-set_other slots' i p new None apart)) (partly.before p (omega (arith, apart)))
  ];
  after = λ p past. get_or-set_other slots' i p new None (λ e. omega arith) ∙ partly.after p (omega arith);
}

module _ (t : TableauParts) (tableau : IsTableau t) (enters : ℕ) (line : Terms) (slots slots' slots'' : Slots) (i : ℕ) (d new : Option Terms) (kept kept' kept'' : SumsList) (inside : i < length slots')
    (partly : ArePartlySubstituted enters line slots slots' i) (stay : LinesStay t slots slots' kept kept') where
  at : get_or slots' i d ≡ slot_at slots' i
  at = get_or_default slots' i d None inside

  -- the slot stays
  pub lacks_more : IsChange enters line (get_or slots' i d) new Lacks → slots'' ≡ set slots' i new → kept'' ≡ kept'
      → record { partly : ArePartlySubstituted enters line slots slots'' (i + 1); stay : LinesStay t slots slots'' kept kept'' }
  lacks_more change is kept_is =
      let whole : slots'' ≡ slots' = is ∙ subst (λ s. set slots' i s ≡ slots') (sym change.0) (set-get_or slots' i d) in
      record {
        partly =
            subst (λ l. ArePartlySubstituted enters line slots l (i + 1)) (sym is)
            (partly_more enters line slots slots' i new inside partly (subst (λ s. IsSubstituted enters line s new) at change.1));
        stay = subst (λ l. LinesStay t slots l kept kept'') (sym whole) (subst (λ k. LinesStay t slots slots' kept k) (sym kept_is) stay);
      }

  -- its line is changed, and its sums are carried
  pub made_more : (others : Option Sums) (scales : Scales) → IfSome others (λ z. IsSamePoint (delta_of z) (standing (resting t) 0 (Some line))) → IsChange enters line (get_or slots' i d) new (Made scales)
      → slots'' ≡ set slots' i new → Carries i others scales kept' kept'' → record { partly : ArePartlySubstituted enters line slots slots'' (i + 1); stay : LinesStay t slots slots'' kept kept'' }
  made_more others scales same change is carries = record {
    partly =
        subst (λ l. ArePartlySubstituted enters line slots l (i + 1)) (sym is)
        (partly_more enters line slots slots' i new inside partly (subst (λ s. IsSubstituted enters line s new) at change.0));
    stay =
        subst (λ l. LinesStay t slots l kept kept'') (sym is)
        (lines_carried t tableau line slots slots' kept kept' kept'' i new scales others inside (subst (λ s. IsScaled line s new scales) at change.1) same stay carries);
  }

  -- it is changed by fractions, and its sums are forgotten
  pub long_more : (between e : Option Terms) → IsChange enters line (get_or slots' i d) between Long → slots'' ≡ set (set slots' i between) i new → IsSubstituted enters line (get_or (set slots' i between) i e) new
      → Forgets i kept' kept'' → record { partly : ArePartlySubstituted enters line slots slots'' (i + 1); stay : LinesStay t slots slots'' kept kept'' }
  long_more between e change is substituted forgets =
      let whole : set slots' i between ≡ slots' = subst (λ s. set slots' i s ≡ slots') (sym change.0) (set-get_or slots' i d) in
      let is' : slots'' ≡ set slots' i new = is ∙ subst (λ l. set l i new ≡ set slots' i new) (sym whole) refl in
      let substituted' = subst (λ l. IsSubstituted enters line (get_or l i e) new) whole substituted in
      record {
        partly =
            subst (λ l. ArePartlySubstituted enters line slots l (i + 1)) (sym is')
            (partly_more enters line slots slots' i new inside partly (subst (λ s. IsSubstituted enters line s new) (get_or_default slots' i e None inside) substituted'));
        stay = subst (λ l. LinesStay t slots l kept kept'') (sym is') (lines_set t slots slots' kept kept' kept'' i new stay forgets);
      }
