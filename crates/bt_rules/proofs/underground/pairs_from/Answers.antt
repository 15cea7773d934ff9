use Rattle.std.proofs.Common.{[], arith}
use Rattle.bt_rules.specs.inner.Parts as parts
use Rattle.bt_arena.proofs.Loops.{from_more, from_all}
use Rattle.bt_rules.proofs.underground.pairs_from.Goals as goal

pub loop-distance-preserved : goal.loop-distance-preserved
loop-distance-preserved c = from_more (parts.pair_from c.args.rect c.args.cell c.args.dir) [] c.loop-distance.facts.items c.push_pair_from.new.facts.items c.loop-distance.distance (omega arith) c.loop-distance.invariant (c.in_ok-push_pair_from.ensures)

pub returns : goal.returns
returns c = from_all (parts.pair_from c.args.rect c.args.cell c.args.dir) [] c.loop-distance.facts.items c.loop-distance.distance (c.args.most) (omega arith) c.loop-distance.invariant
