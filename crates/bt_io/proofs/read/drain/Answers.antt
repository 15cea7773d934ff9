use Rattle.std.proofs.Common.{◌≤◌, length, take, sym, arith, rules}
use Rattle.std.proofs.lemmas.Grind.{common_steps}
use Rattle.bt_io.proofs.Drained.{drained_more}
use Rattle.bt_io.proofs.read.drain.Goals as goal

pub loop-taken-preserved : goal.loop-taken-preserved
loop-taken-preserved g c =
    let few : c.in-Ok.count ≤ length c.read.new.buf = c.in-Ok.ensures.bound.0 in
    record {
      drained = drained_more (g.S.Source.left c.args.source.now) (g.S.Source.left c.loop-taken.source) (g.S.Source.left c.read.new.self) c.loop-taken.taken c.in-Ok.count
          (take c.in-Ok.count c.read.new.buf) c.loop-taken.invariant.drained c.in-Ok.ensures.bytes.0 (sym c.in-Ok.ensures.bound.1);
      size = first_of (grind (arith, common_steps), omega (arith, c.room_for-room.ensures.fits, c.read.auto.buf));
      block = first_of (search rules, grind (arith, common_steps));
      count = omega (arith, c.loop-taken.invariant.count, c.read.ensures.cause.later);
    }
