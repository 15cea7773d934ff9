use Rattle.std.proofs.Common.{◌≡◌, take}
use Rattle.std.specs.List.{flat_map}
use Rattle.bt_rules.specs.PlaceRules.{splitter_rules}
use Rattle.bt_place.specs.inner.Writing.{with_rules}
use Rattle.bt_place.proofs.encoding.write_splitters.Given as goal

abbrev pub invariant-loop-gate : goal.invariant-loop-gate
invariant-loop-gate l = l.formula ≡ with_rules l.numbers l.initial.formula (flat_map (λ g. splitter_rules l.request g.splitter) (take l.gate-index l.gates))
