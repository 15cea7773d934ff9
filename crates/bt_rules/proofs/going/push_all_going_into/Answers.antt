use Rattle.std.proofs.Common.{append-nil, sym}
use Rattle.bt_facts.specs.Facts as told
use Rattle.bt_arena.proofs.Loops.{taken_more, taken_all}
use Rattle.bt_rules.proofs.going.push_all_going_into.Goals as goal

pub loop-dir-init : goal.loop-dir-init
loop-dir-init c = sym (append-nil c.args.facts.now.items)

pub loop-dir-preserved : goal.loop-dir-preserved
loop-dir-preserved c = taken_more (told.goes_into c.args.rect c.args.cell) c.args.towards.now c.args.facts.now.items c.loop-dir.facts.items c.push_goes_into.new.facts.items c.loop-dir.dir-index _ c.loop-dir-test.true c.loop-dir.invariant (c.in_ok-push_goes_into.ensures)

pub returns : goal.returns
returns c = taken_all (told.goes_into c.args.rect c.args.cell) c.args.towards.now c.args.facts.now.items c.loop-dir.facts.items c.loop-dir.dir-index c.loop-dir-test.false c.loop-dir.invariant
