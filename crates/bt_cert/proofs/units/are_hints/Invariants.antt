use Rattle.std.proofs.Common.{take}
use Rattle.bt_cert.specs.Judging.{AreHints}
use Rattle.bt_cert.specs.inner.Refuting.{places_of}
use Rattle.bt_cert.proofs.units.are_hints.Given as goal

abbrev pub invariant-loop-hint : goal.invariant-loop-hint
invariant-loop-hint l = AreHints l.known.clauses (take l.hint-index (places_of l.hints))
