use Rattle.std.proofs.Common.{append-nil, sym}
use Rattle.bt_rules.specs.Underground as underground
use Rattle.bt_arena.proofs.Loops.{taken_more, taken_all}
use Rattle.bt_rules.proofs.underground.add_pair_classes.Goals as goal

pub loop-class-init : goal.loop-class-init
loop-class-init c = sym (append-nil c.args.draft.now)

pub loop-class-preserved : goal.loop-class-preserved
loop-class-preserved c = taken_more (underground.pair_class_rules c.args.cell c.args.dir c.args.distance) c.args.classes.now c.args.draft.now c.loop-class.draft c.add_pair_class.new.draft c.loop-class.class-index _ c.loop-class-test.true c.loop-class.invariant (c.in_ok-add_pair_class.ensures)

pub returns : goal.returns
returns c = taken_all (underground.pair_class_rules c.args.cell c.args.dir c.args.distance) c.args.classes.now c.args.draft.now c.loop-class.draft c.loop-class.class-index c.loop-class-test.false c.loop-class.invariant
