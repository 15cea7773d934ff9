use Rattle.std.proofs.Common.{refl}
use Rattle.bt_flow.proofs.sums.add.Goals as goal

pub returns-in-Some-clause-sum : goal.returns-in-Some-clause-sum
returns-in-Some-clause-sum c =
    let sum = c.in-Some.ensures in
    record { left = sum.known.0; right = sum.known.1; lowest = sum.lowest; sum = sum.sum; fits = sum.fits }

pub returns-in-None-clause-wide : goal.returns-in-None-clause-wide
returns-in-None-clause-wide c = (refl, refl, c.in-None.ensures.none)
