use Rattle.std.proofs.Common.{take}
use Rattle.bt_cert.specs.inner.Assuming.{IsUnitSoFar}
use Rattle.bt_cert.proofs.units.unit_of.Given as goal

abbrev pub invariant-loop-lit : goal.invariant-loop-lit
invariant-loop-lit l = IsUnitSoFar l.assumed (take l.lit-index l.clause) l.unit
