use Rattle.std.proofs.Common.{◌≡◌, ◌++◌, map, take}
use Rattle.bt_facts.specs.Spots.{dirs}
use Rattle.bt_facts.specs.declared.fact.Fact.TheVariants as fact
use Rattle.bt_rules.proofs.standing.push_ats.Given as goal

abbrev pub invariant-loop-dir : goal.invariant-loop-dir
invariant-loop-dir l = l.facts.items ≡ l.initial.facts.items ++ map (fact.At l.splitter l.cell) (take l.dir-index dirs)
