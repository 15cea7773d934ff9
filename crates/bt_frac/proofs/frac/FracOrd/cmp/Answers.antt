use Rattle.bt_frac.proofs.Ordered.{lowest_cmp}
use Rattle.bt_frac.proofs.frac.FracOrd.cmp.Goals as goal

pub returns : goal.returns
returns c = lowest_cmp c.compare.result c.args.self.now c.args.other.now c.compare.ensures.known.0 c.compare.ensures.known.1 c.compare.ensures.order
