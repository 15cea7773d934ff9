use Rattle.std.proofs.Common.{subst}
use Rattle.bt_grids.specs.Grids.{IsWithin}
use Rattle.bt_layout.proofs.small.small_on.Goals as goal

pub sketched_on-requires-clause-may : goal.sketched_on-requires-clause-may
sketched_on-requires-clause-may c = (
  subst (λ most. IsWithin most c.args.layout.now.grid) c.rect.ensures.rect (c.is_within.ensures.0 c.if-is_within.true),
  c.has_fewer.ensures.0 c.if-has_fewer.true,
)
