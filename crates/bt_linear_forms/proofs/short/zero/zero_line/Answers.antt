use Rattle.std.proofs.Common.{FitsSigned, rules, ◌<◌, ◌^◌, ◌∷◌, [], pos, ◌-ℤ◌, ap, sym, ◌∙◌, subst}
use Rattle.std.specs.Int.{w64}
use Rattle.std.proofs.lemmas.Int.{to_z-of_z}
use Rattle.bt_frac.proofs.Quotients.{nonzero_size}
use Rattle.bt_linear_forms.specs.Lines.{IsLine, IsCombination}
use Rattle.bt_linear_forms.specs.Shorts.{Ascend, reduced, whole_at}
use Rattle.bt_linear_forms.specs.Substituting.{IsZeroLine}
use Rattle.bt_linear_forms.proofs.ShortWalks.{short_ascends, whole_small, whole_not}
use Rattle.bt_linear_forms.proofs.ShortZeros.{zero_is, opposite_small, opposite_is, held}
use Rattle.bt_linear_forms.proofs.short.zero.zero_line.Goals as goal

pub whole_at-requires : goal.whole_at-requires
whole_at-requires c = subst (λ l. Ascend l) (sym c.deref.ensures.value) (short_ascends c.line.inside.under c.line.inside.terms.items c.line.invariant)

pub magnitude-requires : goal.magnitude-requires
magnitude-requires c =
    let number_fits : FitsSigned w64 c.in-Some.number = search rules in
    simp to_z-of_z (whole_small c.args.enters c.line.inside.terms.items c.in-Some.number c.line.invariant.small
    (ap (λ l. whole_at c.args.enters l) (sym c.deref.ensures.value) ∙ sym c.whole_at.ensures ∙ c.in-Some.is))

pub lone_sum-requires-clause-some : goal.lone_sum-requires-clause-some
lone_sum-requires-clause-some c =
    let number_fits : FitsSigned w64 c.in-Some.number = search rules in
    let size = simp to_z-of_z at c.magnitude.ensures in
    subst (λ n. 0 < n) (sym size) (nonzero_size c.in-Some.number (whole_not c.args.enters c.line.inside.under c.line.inside.terms.items c.in-Some.number c.line.invariant
    (ap (λ l. whole_at c.args.enters l) (sym c.deref.ensures.value) ∙ sym c.whole_at.ensures ∙ c.in-Some.is)))

pub lone_sum-requires-clause-fits : goal.lone_sum-requires-clause-fits
lone_sum-requires-clause-fits c =
    let number_fits : FitsSigned w64 c.in-Some.number = search rules in
    let size = simp to_z-of_z at c.magnitude.ensures in
    subst (λ n. n < 2 ^ 31) (sym size) (whole_small c.args.enters c.line.inside.terms.items c.in-Some.number c.line.invariant.small
    (ap (λ l. whole_at c.args.enters l) (sym c.deref.ensures.value) ∙ sym c.whole_at.ensures ∙ c.in-Some.is))

pub returns-in-Some-2 : goal.returns-in-Some-2
returns-in-Some-2 c f named =
    let number_fits : FitsSigned w64 c.in-Some.number = search rules in
    let share_fits : FitsSigned w64 c.share_over-share.result = search rules in
    let opposite_fits : FitsSigned w64 (pos 0 -ℤ c.share_over-share.result) = opposite_small c.share_over-share.result c.line.inside.under c.share_over-share.ensures.size c.line.invariant.fits in
    let whole = (ap (λ l. whole_at c.args.enters l) (sym c.deref.ensures.value) ∙ sym c.whole_at.ensures ∙ c.in-Some.is) in
    let size = simp to_z-of_z at c.magnitude.ensures in
    let product = simp to_z-of_z at c.share_over-share.ensures.product in
    let sums = simp to_z-of_z at c.in_ok-sum.ensures.sum in
    let line = held (λ l. IsLine l) c.in_ok-sum.field-0 c.in-Some-2.sum c.in-Some-2.is c.in_ok-sum.ensures.line in
    let sum = held (IsCombination ((c.args.position, reduced c.share_over-share.result c.magnitude.result) ∷ []) (reduced (pos 0 -ℤ c.share_over-share.result) c.magnitude.result) c.args.line.now) c.in_ok-sum.field-0
    c.in-Some-2.sum c.in-Some-2.is sums in
    subst (λ z. IsZeroLine c.args.position c.args.line.now f z) (sym c.lowered.ensures)
    (zero_is c.args.position c.args.enters c.line.inside.under c.line.inside.terms.items c.args.line.now c.in-Some-2.sum f c.in-Some.number c.share_over-share.result (pos 0 -ℤ c.share_over-share.result)
    c.magnitude.result c.line.invariant c.line.view_is whole named size
    (whole_not c.args.enters c.line.inside.under c.line.inside.terms.items c.in-Some.number c.line.invariant whole)
    (whole_small c.args.enters c.line.inside.terms.items c.in-Some.number c.line.invariant.small whole) c.share_over-share.ensures.size product (opposite_is c.share_over-share.result) line sum)
