use Rattle.std.proofs.Common.{◌≡◌, ◌++◌, map, take}
use Rattle.bt_rules.specs.Carrying as carrying
use Rattle.bt_rules.proofs.carrying.add_all_taken.Given as goal

abbrev pub invariant-loop-gate : goal.invariant-loop-gate
invariant-loop-gate l = l.draft ≡ l.initial.draft ++ map (λ g. carrying.taken_rule l.request l.cell l.dir g.splitter) (take l.gate-index l.gates)
