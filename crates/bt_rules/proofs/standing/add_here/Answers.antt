use Rattle.std.proofs.Common.{append-nil, sym}
use Rattle.bt_facts.specs.Spots.{dirs}
use Rattle.bt_rules.specs.Standing as standing
use Rattle.bt_arena.proofs.Loops.{taken_more, taken_all}
use Rattle.bt_rules.proofs.standing.add_here.Goals as goal

pub loop-dir-init : goal.loop-dir-init
loop-dir-init c = sym (append-nil c.args.draft.now)

pub loop-dir-preserved : goal.loop-dir-preserved
loop-dir-preserved c = taken_more (standing.at_rules c.args.rect c.args.splitter c.args.cell) dirs c.args.draft.now c.loop-dir.draft c.add_at.new.draft c.loop-dir.dir-index _ c.loop-dir-test.true c.loop-dir.invariant (c.in_ok-add_at.ensures)

pub returns : goal.returns
returns c = taken_all (standing.at_rules c.args.rect c.args.splitter c.args.cell) dirs c.args.draft.now c.loop-dir.draft c.loop-dir.dir-index c.loop-dir-test.false c.loop-dir.invariant
