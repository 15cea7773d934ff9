use Rattle.std.proofs.Common.{append-nil, sym}
use Rattle.bt_rules.specs.Standing as standing
use Rattle.bt_arena.proofs.Loops.{item_more}
use Rattle.bt_rules.proofs.standing.add_names.Goals as goal

pub loop-splitter-init : goal.loop-splitter-init
loop-splitter-init c = sym (append-nil c.args.draft.now)

pub loop-splitter-preserved : goal.loop-splitter-preserved
loop-splitter-preserved c = item_more (standing.name_rule c.args.rect c.args.cell) c.args.draft.now c.loop-splitter.draft c.add_name.new.draft c.loop-splitter.splitter c.loop-splitter.invariant (c.in_ok-add_name.ensures)
