use Rattle.std.proofs.Common.{refl}
use Rattle.bt_frac.proofs.Euclid.{lowest_same}
use Rattle.bt_same.proofs.comparing.is_same.Goals as goal

pub returns-in-Equal : goal.returns-in-Equal
returns-in-Equal c =
    let known = c.compare.ensures.known in
    (λ t. lowest_same c.args.left.now c.args.right.now known.0 known.1 c.in-Equal.ensures.order, λ e. refl)
