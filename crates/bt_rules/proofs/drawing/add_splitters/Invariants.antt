use Rattle.std.proofs.Common.{◌≡◌, ◌++◌, take}
use Rattle.std.specs.List.{flat_map}
use Rattle.bt_rules.specs.PlaceRules as place
use Rattle.bt_rules.proofs.drawing.add_splitters.Given as goal

abbrev pub invariant-loop-gate : goal.invariant-loop-gate
invariant-loop-gate l = l.draft ≡ l.initial.draft ++ flat_map (λ g. place.splitter_rules l.request g.splitter) (take l.gate-index l.gates)
