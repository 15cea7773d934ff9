use Rattle.std.proofs.Common.{append-nil, sym}
use Rattle.bt_facts.specs.Counters as counters
use Rattle.bt_arena.proofs.Loops.{place_more}
use Rattle.bt_facts.proofs.counter.add_each_held.Goals as goal

pub loop-half-init : goal.loop-half-init
loop-half-init c = sym (append-nil c.args.draft.now)

pub loop-half-preserved : goal.loop-half-preserved
loop-half-preserved c = place_more (counters.held_rules c.args.cells.now c.args.spare) c.args.draft.now c.loop-half.draft c.add_held.new.draft c.loop-half.half c.loop-half.invariant (c.in_ok-add_held.ensures)
