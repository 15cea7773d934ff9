use Rattle.std.proofs.Common.{◌≡◌, map, take}
use Rattle.std.specs.List.{flat_map}
use Rattle.bt_facts.specs.Spots.{dirs}
use Rattle.bt_facts.specs.declared.fact.Fact.TheVariants as fact
use Rattle.bt_rules.proofs.standing.stands_at.Given as goal

abbrev pub invariant-loop-cell : goal.invariant-loop-cell
invariant-loop-cell l = l.facts.items ≡ flat_map (λ on. map (fact.At l.splitter on) dirs) (take l.cell-index l.cells)
