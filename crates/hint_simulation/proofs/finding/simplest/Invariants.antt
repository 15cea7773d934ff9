use Rattle.std.proofs.Common.{IfSome}
use Rattle.bt_flow.specs.Properties.{IsBreaking}
use Rattle.hint_simulation.specs.Simulations.{IsCase}
use Rattle.hint_simulation.proofs.finding.simplest.Given as goal

abbrev pub invariant-tries : goal.invariant-tries
invariant-tries l = IfSome l.simplest (IsBreaking l.net l.property) × IsCase l.net l.full
