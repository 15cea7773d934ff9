use Rattle.std.proofs.Common.{rules}
use Rattle.bt_cert.proofs.Assumed.{all_unset}
use Rattle.bt_cert.proofs.assumptions.Assumptions.clear.Goals as goal

pub returns-clause-unset : goal.returns-clause-unset
returns-clause-unset c =
    all_unset c.loop-place.self-inside.values.items c.loop-place.self-inside.trail.items (search rules) c.loop-place.invariant.trailed
