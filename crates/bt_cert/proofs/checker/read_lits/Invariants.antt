use Rattle.std.proofs.Common.{take, true}
use Rattle.bt_cert.specs.inner.Reading.{AreRead}
use Rattle.bt_cert.proofs.checker.read_lits.Given as goal

abbrev pub invariant-loop-lit : goal.invariant-loop-lit
invariant-loop-lit l = AreRead l.formula.vars (take l.lit-index l.written) l.lits.items true
