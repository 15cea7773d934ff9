use Rattle.std.proofs.Common.{take}
use Rattle.std.specs.List.{AllZip}
use Rattle.hint_simulation.specs.Simulations.{IsWithinCap}
use Rattle.hint_simulation.proofs.simulation.flows_of.Given as goal

abbrev pub invariant-loop-place : goal.invariant-loop-place
invariant-loop-place l = AllZip IsWithinCap (take l.place l.edges) l.flows.items
