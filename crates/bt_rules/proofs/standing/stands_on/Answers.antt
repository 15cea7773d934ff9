use Rattle.std.proofs.Common.{[]}
use Rattle.bt_facts.specs.Spots.{dirs}
use Rattle.bt_rules.specs.Standing as standing
use Rattle.bt_arena.proofs.Loops.{taken_more, taken_all}
use Rattle.bt_rules.proofs.standing.stands_on.Goals as goal

pub loop-dir-preserved : goal.loop-dir-preserved
loop-dir-preserved c = taken_more (standing.stands_on c.args.rect c.args.splitter c.args.cell) dirs [] c.loop-dir.facts.items c.push_stands_on.new.facts.items c.loop-dir.dir-index _ c.loop-dir-test.true c.loop-dir.invariant (c.in_ok-push_stands_on.ensures)

pub returns : goal.returns
returns c = taken_all (standing.stands_on c.args.rect c.args.splitter c.args.cell) dirs [] c.loop-dir.facts.items c.loop-dir.dir-index c.loop-dir-test.false c.loop-dir.invariant
