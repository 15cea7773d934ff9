use Rattle.std.proofs.Common.{append-nil, sym}
use Rattle.std.specs.List.{flat_map, range_with_len}
use Rattle.bt_facts.specs.Counters as counters
use Rattle.bt_arena.proofs.Loops.{place_more}
use Rattle.bt_facts.proofs.counter.add_counter.Goals as goal

pub loop-spare-init : goal.loop-spare-init
loop-spare-init c = sym (append-nil c.args.draft.now)

pub loop-spare-preserved : goal.loop-spare-preserved
loop-spare-preserved c = place_more (λ spare. flat_map (counters.held_rules c.args.cells.now spare) (range_with_len 0 c.args.halves)) c.args.draft.now c.loop-spare.draft c.add_each_held.new.draft c.loop-spare.spare c.loop-spare.invariant (c.in_ok-add_each_held.ensures)
