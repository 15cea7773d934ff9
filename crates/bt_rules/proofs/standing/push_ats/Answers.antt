use Rattle.std.proofs.Common.{append-nil, sym}
use Rattle.bt_facts.specs.Spots.{dirs}
use Rattle.bt_facts.specs.declared.fact.Fact.TheVariants as fact
use Rattle.bt_arena.proofs.Loops.{mapped_more, mapped_all}
use Rattle.bt_rules.proofs.standing.push_ats.Goals as goal

pub loop-dir-init : goal.loop-dir-init
loop-dir-init c = sym (append-nil c.args.facts.now.items)

pub loop-dir-preserved : goal.loop-dir-preserved
loop-dir-preserved c = mapped_more (fact.At c.args.splitter c.args.cell) dirs c.args.facts.now.items c.loop-dir.facts.items c.push.new.self.items c.loop-dir.dir-index _ c.loop-dir-test.true c.loop-dir.invariant (c.in_ok-push.ensures.items)

pub returns : goal.returns
returns c = mapped_all (fact.At c.args.splitter c.args.cell) dirs c.args.facts.now.items c.loop-dir.facts.items c.loop-dir.dir-index c.loop-dir-test.false c.loop-dir.invariant
