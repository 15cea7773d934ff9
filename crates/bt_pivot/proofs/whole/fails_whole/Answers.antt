use Rattle.std.proofs.Common.{◌≡◌, Some, sym, subst}
use Rattle.bt_pivot.specs.Points.{bound_row}
use Rattle.bt_pivot.specs.SolvedForms.{slot_at}
use Rattle.bt_pivot.specs.Tableaus.{with_slots}
use Rattle.bt_pivot.specs.inner.Rests.{rest_point}
use Rattle.bt_pivot.specs.Sums.{delta_of}
use Rattle.bt_pivot.proofs.BoundRests.{bound_by}
use Rattle.bt_pivot.proofs.ShortPoints.{break_fails, like_fails}
use Rattle.bt_pivot.proofs.whole.fails_whole.Goals as goal

pub returns-in_ok-told-in-Line-clause-told : goal.returns-in_ok-told-in-Line-clause-told
returns-in_ok-told-in-Line-clause-told c =
    let bound = bound_by (bound_row c.args.tableau.now c.args.position) c.in_ok-rest.rest c.in-Some.relation c.in_ok-rest.ensures c.in-Some.is in
    let class = c.in_ok-of_class-in-Line.ensures.sums c.args.basis.now c.in-Line.ensures.1 c.requires.kept in
    let same = class.1.same c.in-Line.line.now (subst (λ n. slot_at c.args.basis.now n ≡ Some c.in-Line.line.now) (sym class.0) c.in-Line.ensures.1) in
    break_fails (with_slots c.args.tableau.now c.args.basis.now) c.all_known.ensures.rows c.args.position bound.0 c.in-Line.negated c.in-Line.line.now c.in_ok-told-in-Line.told bound.1 c.in-Line.ensures.0 c.known.ensures
    (delta_of c.in_ok-of_class-in-Line.of_class.sums, same, c.in_ok-told-in-Line.ensures bound.0 bound.2 bound.3)

pub returns-in_ok-told-in-Like-clause-told : goal.returns-in_ok-told-in-Like-clause-told
returns-in_ok-told-in-Like-clause-told c =
    let bound = bound_by (bound_row c.args.tableau.now c.args.position) c.in_ok-rest.rest c.in-Some.relation c.in_ok-rest.ensures c.in-Some.is in
    like_fails (with_slots c.args.tableau.now c.args.basis.now) c.all_known.ensures.rows c.args.position bound.0 c.in-Like.other c.in-Like.negated (rest_point c.in_ok-other_rest-in-Like.other_rest) c.in_ok-told-in-Like.told bound.1
    c.in-Like.ensures.0 c.in-Like.ensures.1 (sym c.in_ok-other_rest-in-Like.ensures.0) (c.in_ok-told-in-Like.ensures bound.0 bound.2 bound.3)
