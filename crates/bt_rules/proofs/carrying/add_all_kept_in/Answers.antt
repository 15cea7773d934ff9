use Rattle.std.proofs.Common.{append-nil, sym}
use Rattle.bt_rules.specs.Carrying as carrying
use Rattle.bt_arena.proofs.Loops.{taken_more, taken_all}
use Rattle.bt_rules.proofs.carrying.add_all_kept_in.Goals as goal

pub loop-class-init : goal.loop-class-init
loop-class-init c = sym (append-nil c.args.draft.now)

pub loop-class-preserved : goal.loop-class-preserved
loop-class-preserved c = taken_more (carrying.kept_in_rules c.args.cell c.args.dir) c.args.classes.now c.args.draft.now c.loop-class.draft c.add_kept_in.new.draft c.loop-class.class-index _ c.loop-class-test.true c.loop-class.invariant (c.in_ok-add_kept_in.ensures)

pub returns : goal.returns
returns c = taken_all (carrying.kept_in_rules c.args.cell c.args.dir) c.args.classes.now c.args.draft.now c.loop-class.draft c.loop-class.class-index c.loop-class-test.false c.loop-class.invariant
