use Rattle.std.proofs.Common.{◌≡◌, ◌++◌}
use Rattle.std.specs.List.{flat_map, range_with_len}
use Rattle.bt_facts.specs.Counters as counters
use Rattle.bt_facts.proofs.counter.add_each_held.Given as goal

abbrev pub invariant-loop-half : goal.invariant-loop-half
invariant-loop-half l = l.draft ≡ l.initial.draft ++ flat_map (counters.held_rules l.cells l.spare) (range_with_len 0 l.half)
