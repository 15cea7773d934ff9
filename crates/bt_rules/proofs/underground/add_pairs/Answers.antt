use Rattle.std.proofs.Common.{append-nil, sym, arith}
use Rattle.bt_rules.specs.Underground as underground
use Rattle.bt_arena.proofs.Loops.{from_more, from_all}
use Rattle.bt_rules.proofs.underground.add_pairs.Goals as goal

pub loop-distance-init : goal.loop-distance-init
loop-distance-init c = sym (append-nil c.args.draft.now)

pub loop-distance-preserved : goal.loop-distance-preserved
loop-distance-preserved c = from_more (underground.pair_rules c.args.request.now c.args.cell c.args.dir) c.args.draft.now c.loop-distance.draft c.add_pair.new.draft c.loop-distance.distance (omega arith) c.loop-distance.invariant (c.in_ok-add_pair.ensures)

pub returns : goal.returns
returns c = from_all (underground.pair_rules c.args.request.now c.args.cell c.args.dir) c.args.draft.now c.loop-distance.draft c.loop-distance.distance (c.args.most) (omega arith) c.loop-distance.invariant
