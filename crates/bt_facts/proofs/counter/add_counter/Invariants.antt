use Rattle.std.proofs.Common.{◌≡◌, ◌++◌}
use Rattle.std.specs.List.{flat_map, range_with_len}
use Rattle.bt_facts.specs.Counters as counters
use Rattle.bt_facts.proofs.counter.add_counter.Given as goal

abbrev pub invariant-loop-spare : goal.invariant-loop-spare
invariant-loop-spare l = l.draft ≡ l.initial.draft ++ flat_map (λ spare. flat_map (counters.held_rules l.cells spare) (range_with_len 0 l.halves)) (range_with_len 0 l.spare)
