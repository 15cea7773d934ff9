use Rattle.std.proofs.Common.{take}
use Rattle.std.specs.List.{All}
use Rattle.bt_cert.specs.inner.Assuming.{IsFalseIn}
use Rattle.bt_cert.proofs.units.are_false.Given as goal

abbrev pub invariant-loop-lit : goal.invariant-loop-lit
invariant-loop-lit l = All (IsFalseIn l.assumed) (take l.lit-index l.clause)
