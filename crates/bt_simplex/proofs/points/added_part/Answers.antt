use Rattle.bt_simplex.proofs.Nothings.{adds_nothing}
use Rattle.bt_simplex.proofs.points.added_part.Goals as goal

pub returns-then-is_zero-clause-sum : goal.returns-then-is_zero-clause-sum
returns-then-is_zero-clause-sum c =
    adds_nothing c.args.sum.now c.args.number.now c.args.part.now c.denominator.ensures.known (c.is_zero.ensures.0 c.if-is_zero.true)
