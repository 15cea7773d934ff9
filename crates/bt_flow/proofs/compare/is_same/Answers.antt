use Rattle.bt_flow.proofs.Compared.{same_same, apart}
use Rattle.bt_flow.proofs.compare.is_same.Goals as goal

pub returns-in-Equal : goal.returns-in-Equal
returns-in-Equal c =
    let known = c.compare.ensures.known in
    same_same c.args.left.now c.args.right.now known.0.positive known.1.positive c.in-Equal.ensures.order

pub returns-in-Less : goal.returns-in-Less
returns-in-Less c =
    let known = c.compare.ensures.known in
    apart c.args.left.now c.args.right.now known.0.positive known.1.positive c.compare.result c.compare.ensures.order c.in-Less.is
