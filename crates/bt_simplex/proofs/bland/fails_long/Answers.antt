use Rattle.bt_pivot.specs.Tableaus.{with_slots}
use Rattle.bt_pivot.proofs.Failing.{fails_told}
use Rattle.bt_simplex.proofs.bland.fails_long.Goals as goal

pub returns-clause-told : goal.returns-clause-told
returns-clause-told c =
    let told =
    fails_told (with_slots c.args.tableau.now c.args.basis.now) c.args.position c.in-Some.row.now c.in_ok-point.point (c.has.ensures.0 c.if-not-has.false) c.in-Some.ensures c.in_ok-point.ensures.point in
    (λ breaks. told.0 (c.breaks.ensures.0 breaks), λ fails. c.breaks.ensures.1 (told.1 fails))
