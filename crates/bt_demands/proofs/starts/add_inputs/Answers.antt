use Rattle.std.proofs.Common.{append-nil, sym}
use Rattle.bt_demands.specs.Starts as starts
use Rattle.bt_arena.proofs.Loops.{place_more}
use Rattle.bt_demands.proofs.starts.add_inputs.Goals as goal

pub loop-input-init : goal.loop-input-init
loop-input-init c = sym (append-nil c.args.draft.now)

pub loop-input-preserved : goal.loop-input-preserved
loop-input-preserved c = place_more (starts.input_rules c.args.request.now) c.args.draft.now c.loop-input.draft c.add_input.new.draft c.loop-input.input c.loop-input.invariant (c.in_ok-add_input.ensures)
