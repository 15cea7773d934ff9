use Rattle.std.proofs.Common.{sym, subst}
use Rattle.std.specs.List.{All}
use Rattle.std.proofs.lemmas.Int.{to_z-of_z}
use Rattle.bt_linear_forms.specs.inner.ShortSteps.{IsSmallTerm}
use Rattle.bt_linear_forms.proofs.ShortWalks.{terms_small}
use Rattle.bt_linear_forms.proofs.ShortZeros.{lone_told}
use Rattle.bt_linear_forms.proofs.short.zero.lone_sum.Goals as goal

pub merged_in-requires-clause-right : goal.merged_in-requires-clause-right
merged_in-requires-clause-right c = subst (λ l. All IsSmallTerm l) (sym c.deref.ensures.value) (terms_small c.line.inside.under c.line.inside.terms.items c.line.invariant)

pub invariant_of-result : goal.invariant_of-result
invariant_of-result c =
    let number_fits = c.ranges.number in
    let factor_fits = c.ranges.factor in
    let scales = simp to_z-of_z at c.in-Some.ensures.scales in
    let entry = simp to_z-of_z at c.in-Some-fitting.ensures in
    let sum = rw (c.in-Some-2.is, entry, c.deref.ensures.value) at c.in_ok-terms.ensures in
    (lone_told c.args.position c.args.number c.args.factor c.args.under c.line.inside.under c.in-Some.scales.under c.in-Some.scales.left c.in-Some.scales.right c.line.inside.terms.items c.in-Some-2.terms.items c.args.line.now
    c.requires.position c.requires.number_small c.requires.number_some scales sum c.line.invariant.line c.line.view_is).0

pub returns-in-Some-2-clause-line : goal.returns-in-Some-2-clause-line
returns-in-Some-2-clause-line c =
    let number_fits = c.ranges.number in
    let factor_fits = c.ranges.factor in
    let scales = simp to_z-of_z at c.in-Some.ensures.scales in
    let entry = simp to_z-of_z at c.in-Some-fitting.ensures in
    let sum = rw (c.in-Some-2.is, entry, c.deref.ensures.value) at c.in_ok-terms.ensures in
    (lone_told c.args.position c.args.number c.args.factor c.args.under c.line.inside.under c.in-Some.scales.under c.in-Some.scales.left c.in-Some.scales.right c.line.inside.terms.items c.in-Some-2.terms.items c.args.line.now
    c.requires.position c.requires.number_small c.requires.number_some scales sum c.line.invariant.line c.line.view_is).0.line

pub returns-in-Some-2-clause-sum : goal.returns-in-Some-2-clause-sum
returns-in-Some-2-clause-sum c =
    let number_fits = c.ranges.number in
    let factor_fits = c.ranges.factor in
    let scales = simp to_z-of_z at c.in-Some.ensures.scales in
    let entry = simp to_z-of_z at c.in-Some-fitting.ensures in
    let sum = rw (c.in-Some-2.is, entry, c.deref.ensures.value) at c.in_ok-terms.ensures in
    (lone_told c.args.position c.args.number c.args.factor c.args.under c.line.inside.under c.in-Some.scales.under c.in-Some.scales.left c.in-Some.scales.right c.line.inside.terms.items c.in-Some-2.terms.items c.args.line.now
    c.requires.position c.requires.number_small c.requires.number_some scales sum c.line.invariant.line c.line.view_is).1
