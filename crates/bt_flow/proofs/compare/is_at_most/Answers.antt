use Rattle.bt_flow.proofs.Compared.{not_more, more_at_most}
use Rattle.bt_flow.proofs.compare.is_at_most.Goals as goal

pub returns-in-Less : goal.returns-in-Less
returns-in-Less c =
    let known = c.compare.ensures.known in
    not_more c.args.left.now c.args.right.now known.0.positive known.1.positive c.compare.result c.compare.ensures.order c.in-Less.is

pub returns-in-Greater : goal.returns-in-Greater
returns-in-Greater c =
    let known = c.compare.ensures.known in
    more_at_most c.args.left.now c.args.right.now known.0.positive known.1.positive c.in-Greater.ensures.order
