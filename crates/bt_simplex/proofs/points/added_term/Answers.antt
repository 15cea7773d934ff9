use Rattle.bt_simplex.proofs.Nothings.{unbound_adds_nothing}
use Rattle.bt_simplex.proofs.points.added_term.Goals as goal

pub returns-in_default-clause-sum : goal.returns-in_default-clause-sum
returns-in_default-clause-sum c =
    unbound_adds_nothing c.args.tableau.now c.args.term.now.0 c.args.term.now.1 c.args.sum.now c.in_default.ensures c.denominator.ensures.known c.denominator-2.ensures.known
