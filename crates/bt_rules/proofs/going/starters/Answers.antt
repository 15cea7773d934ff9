use Rattle.std.proofs.Common.{[]}
use Rattle.bt_facts.specs.Spots.{dirs}
use Rattle.bt_rules.specs.inner.Parts as parts
use Rattle.bt_arena.proofs.Loops.{taken_more, taken_all}
use Rattle.bt_rules.proofs.going.starters.Goals as goal

pub loop-dir-preserved : goal.loop-dir-preserved
loop-dir-preserved c = taken_more (parts.starters_towards c.args.rect c.args.cell) dirs [] c.loop-dir.facts.items c.push_starters.new.facts.items c.loop-dir.dir-index _ c.loop-dir-test.true c.loop-dir.invariant (c.in_ok-push_starters.ensures)

pub returns : goal.returns
returns c = taken_all (parts.starters_towards c.args.rect c.args.cell) dirs [] c.loop-dir.facts.items c.loop-dir.dir-index c.loop-dir-test.false c.loop-dir.invariant
