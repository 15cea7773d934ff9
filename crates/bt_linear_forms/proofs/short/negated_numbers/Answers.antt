use Rattle.std.proofs.Common.{FitsSigned, rules, ◌≡◌, ◌+◌, ◌++◌, ◌<◌, ◌∙◌, pos, ◌-ℤ◌, neg_ℤ, arith, length, set, get_or, take, drop, true, ap, sym, refl, subst, unsigned_abs}
use Rattle.std.specs.Int.{w64}
use Rattle.std.proofs.lemmas.Int.{to_z-of_z}
use Rattle.std.proofs.lemmas.List.Edits.{map_over_more}
use Rattle.bt_linear_forms.specs.Shorts.{IsSmall, signed_numbers}
use Rattle.bt_linear_forms.proofs.Shorts.{negated_here}
use Rattle.bt_linear_forms.proofs.ShortZeros.{opposite_small, opposite_is}
use Rattle.bt_linear_forms.proofs.short.negated_numbers.Goals as goal

pub loop-entry-preserved : goal.loop-entry-preserved
loop-entry-preserved c =
    let numbers = c.args.terms.items in
    let items = c.loop-entry.entry-items in
    let i = c.loop-entry.entry-index in
    let x = c.entry-item.result in
    let inside : c.loop-entry.entry-index < length c.args.terms.items = omega arith in
    let number = c.number.ensures ∙ ap (λ e. e.1) (ap (λ l. get_or l i x) c.loop-entry.invariant ∙ negated_here numbers i x) in
    let small : IsSmall c.number.result = subst (λ z. IsSmall z) (sym number) (c.requires i x inside) in
    let fits : FitsSigned w64 c.number.result = search rules in
    let opposite_fits : FitsSigned w64 (pos 0 -ℤ c.number.result) = opposite_small c.number.result (unsigned_abs c.number.result) refl small in
    let made = simp to_z-of_z at c.of.ensures in
    let is : c.of.result ≡ (c.entry-item.result.0, neg_ℤ c.entry-item.result.1) =
    made ∙ ap (λ p. (p, pos 0 -ℤ c.number.result)) c.position.ensures ∙ ap (λ z. ((get_or items i x).0, z)) (opposite_is c.number.result) ∙ ap (λ z. ((get_or items i x).0, neg_ℤ z)) c.number.ensures
    ∙ ap (λ e. (e.0, neg_ℤ e.1)) (sym c.entry-item.is) in
    subst (λ y. set items i y ≡ signed_numbers true (take (i + 1) numbers) ++ drop (i + 1) numbers) (sym is) (map_over_more (λ t. (t.0, neg_ℤ t.1)) numbers items i x inside c.loop-entry.invariant c.entry-item.is)
