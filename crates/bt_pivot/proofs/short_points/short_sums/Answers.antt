use Rattle.std.proofs.Common.{◌≡◌, ◌<◌, ◌≤◌, ◌∙◌, ◌^◌, arith, refl, length, subst, sym, ap, FitsSigned, w64, rules}
use Rattle.std.proofs.lemmas.Int.{to_z-of_z}
use Rattle.bt_pivot.specs.Points.{resting}
use Rattle.bt_pivot.specs.inner.Rests.{rest_point}
use Rattle.bt_pivot.specs.inner.ShortPoints.{AddsWhole}
use Rattle.bt_pivot.proofs.ShortPoints.{short_start, sums_more, sums_all}
use Rattle.bt_pivot.proofs.short_points.short_sums.Goals as goal

pub loop-entry-init : goal.loop-entry-init
loop-entry-init c = (refl, short_start c.args.tableau.now c.parts-under.result.1 c.args.line.now c.parts-under.ensures.short.some)

pub loop-entry-preserved : goal.loop-entry-preserved
loop-entry-preserved c =
    let items = c.parts-under.result.0.now in
    let i = c.loop-entry.entry-index in
    let x = c.entry-item.result in
    let fits : FitsSigned w64 c.number.result = search rules in
    let rests : resting c.args.tableau.now x.0 ≡ rest_point c.in_ok-rest.rest = ap (λ p. resting c.args.tableau.now p) (sym c.position.ensures) ∙ c.in_ok-rest.ensures.0 in
    let told = simp to_z-of_z at c.in_ok-sums.ensures in
    let adds = subst (λ r. AddsWhole r c.loop-entry.sums x.1 c.in_ok-sums.sums) (sym rests) (subst (λ z. AddsWhole (rest_point c.in_ok-rest.rest) c.loop-entry.sums z c.in_ok-sums.sums) c.number.ensures told) in
    sums_more c.args.tableau.now c.all_known.ensures c.parts-under.result.1 items c.args.line.now c.parts-under.ensures.short c.parts-under.ensures.same i x c.loop-entry.sums c.in_ok-sums.sums
    c.loop-entry-test.true c.entry-item.is c.loop-entry.invariant adds

pub returns-clause-same : goal.returns-clause-same
returns-clause-same c =
    let past : length c.parts-under.result.0.now ≤ c.loop-entry.entry-index = omega arith in
    sums_all c.args.tableau.now c.parts-under.result.1 c.parts-under.result.0.now c.args.line.now c.loop-entry.entry-index c.loop-entry.sums c.parts-under.ensures.same past c.loop-entry.invariant

pub returns-clause-fits : goal.returns-clause-fits
returns-clause-fits c = subst (λ u. u < 2 ^ 31) (sym c.loop-entry.invariant.0) c.parts-under.ensures.short.fits
