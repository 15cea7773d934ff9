use Rattle.std.proofs.Common.{◌≡◌, ◌<◌, ◌≤◌, length, take, refl, sym, subst, arith, rules}
use Rattle.std.specs.Io.KnownBytes.{Consumes}
use Rattle.std.proofs.lemmas.Grind.{common_steps}
use Rattle.bt_io.specs.Passages.{passage}
use Rattle.bt_cert.proofs.Feeding.{fed_start, fed_more, fed_whole}
use Rattle.bt_cert.proofs.check.read_rest.Goals as goal

pub loop-taken-init : goal.loop-taken-init
loop-taken-init g c = record {
  fed = fed_start (g.S.Source.left c.args.source.now) c.args.reading.now;
  size = omega arith;
  block = refl;
  count = omega arith;
}

pub returns-then-count-eq0-clause-rest : goal.returns-then-count-eq0-clause-rest
returns-then-count-eq0-clause-rest g c =
    let none : c.in-Ok.count ≡ 0 = c.if-count-eq0.true in
    let some : 0 < length c.read.new.buf = first_of (grind (arith, common_steps), omega (arith, c.min-room.ensures, c.read.auto.buf)) in
    let source = passage g.S.Source.left g.S.Source.faults c.args.source.now c.read.new.self in
    fed_whole c.args.limit c.loop-taken.taken source (g.S.Source.left c.loop-taken.source) c.args.reading.now c.loop-taken.reading c.loop-taken.invariant.fed
    (subst (λ n. Consumes (g.S.Source.left c.loop-taken.source) (g.S.Source.left c.read.new.self) (take n c.read.new.buf)) none c.in-Ok.ensures.bytes.0)
    (c.in-Ok.ensures.bytes.1 none some) c.loop-taken-test.true

pub loop-taken-preserved : goal.loop-taken-preserved
loop-taken-preserved g c =
    let few : c.in-Ok.count ≤ length c.read.new.buf = c.in-Ok.ensures.bound.0 in
    let cause = c.in-Ok.ensures.cause in
    record {
      fed = fed_more (g.S.Source.left c.args.source.now) (g.S.Source.left c.loop-taken.source) (g.S.Source.left c.read.new.self)
          c.loop-taken.taken c.in-Ok.count c.args.reading.now c.loop-taken.reading c.take.new.self (take c.in-Ok.count c.read.new.buf) c.loop-taken.invariant.fed
          c.in-Ok.ensures.bytes.0 (sym c.in-Ok.ensures.bound.1) c.take.ensures.reads c.take.ensures.line;
      size = first_of (grind (arith, common_steps), omega (arith, c.min-room.ensures, c.read.auto.buf));
      block = first_of (search rules, grind (arith, common_steps));
      count = omega (arith, c.loop-taken.invariant.count, cause.later);
    }
