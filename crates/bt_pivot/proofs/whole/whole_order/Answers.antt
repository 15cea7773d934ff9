use Rattle.std.proofs.Common.{◌≡◌, Some, ap, sym, ◌∙◌, subst}
use Rattle.bt_frac.specs.Deltas.{IsOrderOfDeltas}
use Rattle.bt_pivot.specs.Points.{value_or_zero, signed_point}
use Rattle.bt_pivot.specs.SolvedForms.{slot_at}
use Rattle.bt_pivot.specs.Tableaus.{with_slots}
use Rattle.bt_pivot.specs.Sums.{delta_of}
use Rattle.bt_pivot.proofs.Places.{line_place}
use Rattle.bt_pivot.proofs.whole.whole_order.Goals as goal

pub returns-in_ok-order-in-Line-clause-order : goal.returns-in_ok-order-in-Line-clause-order
returns-in_ok-order-in-Line-clause-order c row is_bound =
    let class = c.in_ok-of_class-in-Line.ensures.sums c.args.basis.now c.in-Line.ensures.1 c.requires.kept in
    let same = class.1.same c.in-Line.line.now (subst (λ n. slot_at c.args.basis.now n ≡ Some c.in-Line.line.now) (sym class.0) c.in-Line.ensures.1) in
    let point = signed_point c.in-Line.negated (delta_of c.in_ok-of_class-in-Line.of_class.sums) in
    let rests = sym c.in_ok-rest.ensures.0 ∙ ap value_or_zero is_bound in (
      point,
      line_place (with_slots c.args.tableau.now c.args.basis.now) c.all_known.ensures.rows c.args.position c.in-Line.negated c.in-Line.line.now (delta_of c.in_ok-of_class-in-Line.of_class.sums) c.in-Line.ensures.0 c.known.ensures same,
      subst (λ b. IsOrderOfDeltas c.in_ok-order-in-Line.order b point) rests c.in_ok-order-in-Line.ensures,
    )
