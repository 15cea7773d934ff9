use Rattle.bt_frac.proofs.delta.Delta.sub.Goals as goal

pub returns-clause-none : goal.returns-clause-none
returns-clause-none c = rw (c.negate.ensures.negated, c.negate-2.ensures.negated) at c.add.ensures.none
