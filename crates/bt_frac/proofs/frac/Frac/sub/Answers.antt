use Rattle.bt_frac.proofs.frac.Frac.sub.Goals as goal

pub returns-clause-fits : goal.returns-clause-fits
returns-clause-fits c = rw c.negate.ensures.negated at c.add.ensures.fits

pub returns-clause-none : goal.returns-clause-none
returns-clause-none c = rw c.negate.ensures.negated at c.add.ensures.none
