use Rattle.std.proofs.Common.{take, true}
use Rattle.bt_cert.specs.inner.Weighing.{IsPicked}
use Rattle.bt_cert.proofs.lemma.pick_atoms.Given as goal

abbrev pub invariant-loop-lit : goal.invariant-loop-lit
invariant-loop-lit l = IsPicked l.formula (take l.lit-index l.lits) l.picks.items true
