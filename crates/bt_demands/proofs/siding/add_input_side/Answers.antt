use Rattle.std.proofs.Common.{append-nil, sym}
use Rattle.bt_demands.specs.inner.Parts as parts
use Rattle.bt_arena.proofs.Loops.{taken_more, taken_all}
use Rattle.bt_demands.proofs.siding.add_input_side.Goals as goal

pub loop-class-init : goal.loop-class-init
loop-class-init c = sym (append-nil c.args.draft.now)

pub loop-class-preserved : goal.loop-class-preserved
loop-class-preserved c = taken_more (λ k. parts.begun_on c.args.dir k c.args.border.now) c.args.classes.now c.args.draft.now c.loop-class.draft c.add_begun.new.draft c.loop-class.class-index _ c.loop-class-test.true c.loop-class.invariant (c.in_ok-add_begun.ensures)

pub returns : goal.returns
returns c = taken_all (λ k. parts.begun_on c.args.dir k c.args.border.now) c.args.classes.now c.args.draft.now c.loop-class.draft c.loop-class.class-index c.loop-class-test.false c.loop-class.invariant
