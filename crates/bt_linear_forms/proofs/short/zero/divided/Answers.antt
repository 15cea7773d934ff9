use Rattle.std.proofs.Common.{FitsSigned, rules, ◌≡◌, ◌+◌, ◌/◌, ◌<◌, ◌≤◌, ◌^◌, ◌∙◌, arith, length, set, ap, sym, subst, unsigned_abs}
use Rattle.std.specs.Int.{w64}
use Rattle.std.proofs.lemmas.Int.{to_z-of_z}
use Prim.Native.Nat.{◌∣◌}
use Rattle.std.proofs.lemmas.List.{length-map, with_items_is}
use Rattle.bt_frac.proofs.Gcds.{quotient_positive}
use Rattle.bt_linear_forms.specs.Shorts.{reduced, terms_over, IsSmall, IsShort}
use Rattle.bt_linear_forms.proofs.Shorts.{over_short}
use Rattle.bt_linear_forms.proofs.ShortZeros.{ArePartlyLowered, lowered_here, lowered_place, lowered_all}
use Rattle.bt_linear_forms.proofs.short.zero.divided.Goals as goal

pub quotient-requires-clause-small : goal.quotient-requires-clause-small
quotient-requires-clause-small c =
    let fits : FitsSigned w64 c.number.result = search rules in
    let inside : c.loop-term.term-index < length c.loop-term.term-items = omega arith in
    let within : c.loop-term.term-index < length c.args.terms.items = subst (λ n. c.loop-term.term-index < n) c.loop-term.invariant.same_length inside in
    let number =
    c.number.ensures
    ∙ ap (λ e. e.1) (lowered_here c.args.under c.args.by c.args.terms.items c.loop-term.term-items c.loop-term.term-index c.term-item.result inside c.loop-term.invariant) in
    simp to_z-of_z (subst (λ z. IsSmall z) (sym number) (c.requires.short.small c.loop-term.term-index c.term-item.result within))

pub quotient-requires-clause-divides : goal.quotient-requires-clause-divides
quotient-requires-clause-divides c =
    let fits : FitsSigned w64 c.number.result = search rules in
    let inside : c.loop-term.term-index < length c.loop-term.term-items = omega arith in
    let within : c.loop-term.term-index < length c.args.terms.items = subst (λ n. c.loop-term.term-index < n) c.loop-term.invariant.same_length inside in
    let number =
    c.number.ensures
    ∙ ap (λ e. e.1) (lowered_here c.args.under c.args.by c.args.terms.items c.loop-term.term-items c.loop-term.term-index c.term-item.result inside c.loop-term.invariant) in
    simp to_z-of_z (subst (λ z. c.args.by ∣ unsigned_abs z) (sym number) (c.requires.terms c.loop-term.term-index c.term-item.result within))

pub loop-term-preserved : goal.loop-term-preserved
loop-term-preserved c =
    let fits : FitsSigned w64 c.number.result = search rules in
    let quotient_fits : FitsSigned w64 c.quotient.result = search rules in
    let inside : c.loop-term.term-index < length c.loop-term.term-items = omega arith in
    let made = simp to_z-of_z at c.of.ensures in
    let product = (simp to_z-of_z at c.quotient.ensures.product) ∙ c.number.ensures ∙ ap (λ e. e.1) (sym c.term-item.is) in
    let is : c.of.result ≡ (c.term-item.result.0, c.quotient.result) = made ∙ ap (λ p. (p, c.quotient.result)) c.position.ensures ∙ ap (λ e. (e.0, c.quotient.result)) (sym c.term-item.is) in
    subst (λ y. ArePartlyLowered c.args.under c.args.by c.args.terms.items (set c.loop-term.term-items c.loop-term.term-index y) (c.loop-term.term-index + 1)) (sym is)
    (lowered_place c.args.under c.args.by c.args.terms.items c.loop-term.term-items c.loop-term.term-index c.term-item.result c.quotient.result c.requires.short.some c.requires.short.fits c.requires.under c.requires.short.small
    inside c.term-item.is product c.quotient.ensures.small c.loop-term.invariant)

pub returns-clause-short : goal.returns-clause-short
returns-clause-short c =
    let past : length c.loop-term.term-items ≤ c.loop-term.term-index = omega arith in
    let passed : length c.args.terms.items ≤ c.loop-term.term-index = subst (λ n. n ≤ c.loop-term.term-index) c.loop-term.invariant.same_length past in
    let passed' : length (terms_over c.args.under c.args.terms.items) ≤ c.loop-term.term-index = subst (λ n. n ≤ c.loop-term.term-index) (sym (length-map c.args.terms.items (λ x. (x.0, reduced x.1 c.args.under)))) passed in
    let under_fits : c.args.under / c.args.by < 2 ^ 31 = let f = c.requires.short.fits in omega arith in
    let short =
    over_short (c.args.under / c.args.by) (terms_over c.args.under c.args.terms.items) c.loop-term.term-index c.loop-term.term-items (quotient_positive c.args.under c.args.by c.requires.short.some c.requires.under) under_fits
    c.requires.short.line passed' (lowered_all c.args.under c.args.by c.args.terms.items c.loop-term.term-items c.loop-term.term-index past c.loop-term.invariant) in
    subst (λ l. IsShort (c.args.under / c.args.by) l) (sym (with_items_is c.args.terms c.loop-term.term-items (c.loop-term.auto.term-items ∙ c.deref_mut-term-items.ensures.len))) short
