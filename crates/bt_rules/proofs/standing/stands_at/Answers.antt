use Rattle.std.proofs.Common.{[], map}
use Rattle.bt_facts.specs.Spots.{dirs}
use Rattle.bt_facts.specs.declared.fact.Fact.TheVariants as fact
use Rattle.bt_arena.proofs.Loops.{taken_more, taken_all}
use Rattle.bt_rules.proofs.standing.stands_at.Goals as goal

pub loop-cell-preserved : goal.loop-cell-preserved
loop-cell-preserved c = taken_more (λ on. map (fact.At c.args.splitter on) dirs) c.args.cells.now [] c.loop-cell.facts.items c.push_ats.new.facts.items c.loop-cell.cell-index _ c.loop-cell-test.true c.loop-cell.invariant (c.in_ok-push_ats.ensures)

pub returns : goal.returns
returns c = taken_all (λ on. map (fact.At c.args.splitter on) dirs) c.args.cells.now [] c.loop-cell.facts.items c.loop-cell.cell-index c.loop-cell-test.false c.loop-cell.invariant
