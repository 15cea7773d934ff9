use Rattle.std.proofs.Common.{FitsSigned, rules, ◌≡◌, refl, Some, None, IfSome, ap, sym, ◌∙◌, subst, inl}
use Rattle.std.specs.Int.{w64}
use Rattle.std.specs.List.{All}
use Rattle.std.proofs.lemmas.Int.{to_z-of_z}
use Rattle.bt_linear_forms.specs.Shorts.{Numbers, Ascend, reduced, terms_over, whole_at}
use Rattle.bt_linear_forms.specs.inner.ShortSteps.{IsSmallTerm, IsShortSum}
use Rattle.bt_linear_forms.proofs.ShortWalks.{short_ascends, terms_small, whole_small, whole_not, change_told}
use Rattle.bt_farkas.specs.WeightedRows.{coefficient_at}
use Rattle.bt_linear_forms.specs.Changes.{IsScaled}
use Rattle.bt_linear_forms.specs.Substituting.{IsSubstituted}
use Rattle.bt_linear_forms.proofs.Shorts.{number_is}
use Rattle.bt_linear_forms.proofs.short.Short.substitute.Goals as goal

pub whole_at-requires : goal.whole_at-requires
whole_at-requires c = subst (λ l. Ascend l) (sym c.deref.ensures.value) (short_ascends c.self.inside.under c.self.inside.terms.items c.self.invariant)

pub scales_of-requires-clause-factor_some : goal.scales_of-requires-clause-factor_some
scales_of-requires-clause-factor_some c =
    let factor_fits : FitsSigned w64 c.in-Some.factor = search rules in
    simp to_z-of_z (whole_not c.args.enters c.self.inside.under c.self.inside.terms.items c.in-Some.factor c.self.invariant
    (ap (λ l. whole_at c.args.enters l) (sym c.deref.ensures.value) ∙ sym c.whole_at.ensures ∙ c.in-Some.is))

pub scales_of-requires-clause-factor_small : goal.scales_of-requires-clause-factor_small
scales_of-requires-clause-factor_small c =
    let factor_fits : FitsSigned w64 c.in-Some.factor = search rules in
    simp to_z-of_z (whole_small c.args.enters c.self.inside.terms.items c.in-Some.factor c.self.invariant.small
    (ap (λ l. whole_at c.args.enters l) (sym c.deref.ensures.value) ∙ sym c.whole_at.ensures ∙ c.in-Some.is))

pub merged_in-requires-clause-left : goal.merged_in-requires-clause-left
merged_in-requires-clause-left c = subst (λ l. All IsSmallTerm l) (sym c.deref-2.ensures.value) (terms_small c.self.inside.under c.self.inside.terms.items c.self.invariant)

pub merged_in-requires-clause-right : goal.merged_in-requires-clause-right
merged_in-requires-clause-right c = subst (λ l. All IsSmallTerm l) (sym c.deref-3.ensures.value) (terms_small c.zero.inside.under c.zero.inside.terms.items c.zero.invariant)

pub returns-in_default : goal.returns-in_default
returns-in_default c =
    let lacks = sym (number_is c.args.enters c.self.inside.under c.self.inside.terms.items c.args.self.now None c.self.view_is
    (sym c.in_default.is ∙ c.whole_at.ensures ∙ ap (λ l. whole_at c.args.enters l) c.deref.ensures.value)) in
    (refl, inl (lacks, refl))

pub returns-in_default-scales_of : goal.returns-in_default-scales_of
returns-in_default-scales_of c = (
  refl,
  (
    c.args.self.now,
    refl,
    λ none.
        let is : Some (reduced c.in-Some.factor c.self.inside.under) ≡ coefficient_at c.args.enters c.args.self.now =
        number_is c.args.enters c.self.inside.under c.self.inside.terms.items c.args.self.now (Some c.in-Some.factor) c.self.view_is
        (sym c.in-Some.is ∙ c.whole_at.ensures ∙ ap (λ l. whole_at c.args.enters l) c.deref.ensures.value) in
        cc,
  ),
)

pub returns-in-None : goal.returns-in-None
returns-in-None c = (
  refl,
  (
    c.args.self.now,
    refl,
    λ none.
        let is : Some (reduced c.in-Some.factor c.self.inside.under) ≡ coefficient_at c.args.enters c.args.self.now =
        number_is c.args.enters c.self.inside.under c.self.inside.terms.items c.args.self.now (Some c.in-Some.factor) c.self.view_is
        (sym c.in-Some.is ∙ c.whole_at.ensures ∙ ap (λ l. whole_at c.args.enters l) c.deref.ensures.value) in
        cc,
  ),
)

pub returns-in-Some-2 : goal.returns-in-Some-2
returns-in-Some-2 c =
    let factor_fits : FitsSigned w64 c.in-Some.factor = search rules in
    let scales = simp to_z-of_z at c.in-Some-scales_of.ensures.scales in
    let told = subst (λ o. IfSome o (λ v. IsShortSum c.deref-2.result.now c.deref-3.result.now c.in-Some-scales_of.scales.left c.in-Some-scales_of.scales.right c.in-Some-scales_of.scales.under v.items)) c.in-Some-2.is c.in_ok-terms.ensures in
    let sum = rw (c.deref-2.ensures.value, c.deref-3.ensures.value) at told in
    let both = sum c.self.inside.under c.in-Some.factor c.zero.inside.under scales c.self.invariant.line c.zero.invariant.line in
    subst (λ (l : Numbers). IsSubstituted c.args.enters c.args.zero.now (Some c.args.self.now) (Some (terms_over c.in-Some-scales_of.scales.under l)) × IsScaled c.args.zero.now (Some c.args.self.now) (Some (terms_over c.in-Some-scales_of.scales.under l)) c.in-Some-scales_of.scales)
    (ap (λ v. v.items) (sym c.replace.ensures.after))
    (change_told c.args.enters c.self.inside.under c.zero.inside.under c.in-Some.factor c.self.inside.terms.items c.zero.inside.terms.items c.in-Some-2.terms.items c.args.self.now c.args.zero.now c.in-Some-scales_of.scales
    c.self.view_is c.zero.view_is (ap (λ l. whole_at c.args.enters l) (sym c.deref.ensures.value) ∙ sym c.whole_at.ensures ∙ c.in-Some.is) c.self.invariant.line c.zero.invariant.line scales
    c.in-Some-scales_of.ensures.left c.in-Some-scales_of.ensures.right both.0.line both.1)
