use Rattle.std.proofs.Common.{append-nil, sym}
use Rattle.bt_facts.specs.Spots.{dirs}
use Rattle.bt_rules.specs.Contents as contents
use Rattle.bt_arena.proofs.Loops.{mapped_more, mapped_all}
use Rattle.bt_rules.proofs.contents.add_mates_of.Goals as goal

pub loop-dir-init : goal.loop-dir-init
loop-dir-init c = sym (append-nil c.args.draft.now)

pub loop-dir-preserved : goal.loop-dir-preserved
loop-dir-preserved c = mapped_more (contents.mate_rule c.args.rect c.args.cell c.args.half) dirs c.args.draft.now c.loop-dir.draft c.add_mate.new.draft c.loop-dir.dir-index _ c.loop-dir-test.true c.loop-dir.invariant (c.in_ok-add_mate.ensures)

pub returns : goal.returns
returns c = mapped_all (contents.mate_rule c.args.rect c.args.cell c.args.half) dirs c.args.draft.now c.loop-dir.draft c.loop-dir.dir-index c.loop-dir-test.false c.loop-dir.invariant
