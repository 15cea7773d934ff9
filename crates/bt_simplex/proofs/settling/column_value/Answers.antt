use Rattle.bt_pivot.specs.Tableaus.{with_slots}
use Rattle.bt_simplex.proofs.Epsilons.{column_settled, column_add}
use Rattle.bt_simplex.proofs.settling.column_value.Goals as goal

pub returns-in_default-add-clause-unfit : goal.returns-in_default-add-clause-unfit
returns-in_default-add-clause-unfit c =
    column_add (with_slots c.args.tableau.now c.args.basis.now) c.args.column c.args.epsilon.now c.in_ok-point.point c.in-Some.product c.in_ok-point.ensures.point c.requires.epsilon.lowest c.in-Some.ensures.lowest
    c.in-Some.ensures.some c.settle_cause-in_default-add.result c.requires.met c.requires.column c.requires.epsilon c.add.ensures.known.0 c.in_default-add.ensures.none c.settle_cause-in_default-add.ensures

pub returns-clause-settled : goal.returns-clause-settled
returns-clause-settled c =
    column_settled (with_slots c.args.tableau.now c.args.basis.now) c.args.column c.args.epsilon.now c.in_ok-point.point c.in-Some.product c.in_ok-point.ensures.point c.requires.epsilon.lowest c.in-Some.ensures.lowest
    c.in-Some.ensures.some c.in-Some-add.value c.in-Some-add.ensures.lowest c.in-Some-add.ensures.sum
