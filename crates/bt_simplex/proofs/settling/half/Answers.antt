use Rattle.bt_frac.proofs.Euclid.{lowest_same}
use Rattle.std.proofs.Common.{refl}
use Rattle.bt_simplex.proofs.Epsilons.{half_lowest}
use Rattle.bt_simplex.proofs.settling.half.Goals as goal

pub unreachable-requires : goal.unreachable-requires
unreachable-requires c = c.in-None.ensures.none _ half_lowest refl

pub returns : goal.returns
returns c = lowest_same _ _ c.in-Some.ensures.lowest half_lowest c.in-Some.ensures.some
