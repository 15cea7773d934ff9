use Rattle.std.proofs.Common.{◌≡◌, ◌+◌, ◌<◌, ◌≤◌, length, take, refl, sym, subst, ◌∙◌, arith, rules}
use Rattle.std.specs.Io.KnownBytes.{Consumes}
use Rattle.std.proofs.lemmas.Bool.{false≢true}
use Rattle.std.proofs.lemmas.Grind.{common_steps}
use Rattle.bt_io.specs.Passages.{passage}
use Rattle.bt_cert.proofs.DefinedFed.{fed_at_most, fed_end, fed_fault, fed_further, fed_none, fed_steps, fed_taken, rose_before}
use Rattle.bt_cert.proofs.defining.Defining.read_on.Goals as goal

pub loop-alloc-init : goal.loop-alloc-init
loop-alloc-init g c = record {
  fed = fed_none c.args.limit (g.S.Source.left c.args.source.now) c.args.formula.now c.args.self.now;
  block = refl;
  count = omega arith;
}

pub overflow_sub-limit : goal.overflow_sub-limit
overflow_sub-limit g c = let few = c.loop-alloc.invariant.fed.few in omega (arith, few)

pub returns-in_default-clause-reads : goal.returns-in_default-clause-reads
returns-in_default-clause-reads g c =
    let source = passage g.S.Source.left g.S.Source.faults c.args.source.now c.read.new.self in (
      rose_before (g.S.Source.faults c.args.source.now) (g.S.Source.faults c.loop-alloc.source) (g.S.Source.faults c.read.new.self) c.loop-alloc.invariant.count c.in_default.ensures.cause.failed,
      fed_fault c.args.limit c.loop-alloc.taken source (g.S.Source.left c.loop-alloc.source) c.args.formula.now c.args.self.now c.loop-alloc.formula c.loop-alloc.self c.loop-alloc.invariant.fed c.in_default.ensures.bytes,
    )

pub returns-then-count-eq0-clause-reads : goal.returns-then-count-eq0-clause-reads
returns-then-count-eq0-clause-reads g c =
    let few = c.loop-alloc.invariant.fed.few in
    let none : c.in-Ok.count ≡ 0 = c.if-count-eq0.true in
    let some : 0 < length c.read.new.buf = first_of (grind (arith, common_steps), omega (arith, c.min-room.ensures, c.read.auto.buf, few)) in
    let source = passage g.S.Source.left g.S.Source.faults c.args.source.now c.read.new.self in
    fed_end c.args.limit c.loop-alloc.taken source (g.S.Source.left c.loop-alloc.source) c.args.formula.now c.args.self.now c.loop-alloc.formula c.loop-alloc.self c.take_last_line.new.formula c.take_last_line.new.self c.loop-alloc.invariant.fed
    (subst (λ n. Consumes (g.S.Source.left c.loop-alloc.source) (g.S.Source.left c.read.new.self) (take n c.read.new.buf)) none c.in-Ok.ensures.bytes.0)
    (c.in-Ok.ensures.bytes.1 none some) (c.goes_on.ensures.0 c.loop-alloc-test.true) c.in-Ok-take_last_line.ensures

pub returns-then-limit-taken-clause-reads : goal.returns-then-limit-taken-clause-reads
returns-then-limit-taken-clause-reads g c =
    let few : c.in-Ok.count ≤ length c.read.new.buf = c.in-Ok.ensures.bound.0 in
    let size : c.loop-alloc.taken + c.in-Ok.count ≤ c.args.limit + 1 = first_of (grind (arith, common_steps), omega (arith, c.min-room.ensures, c.read.auto.buf)) in
    let over : c.args.limit < c.loop-alloc.taken + c.in-Ok.count = c.if-limit-taken.true in
    let source = passage g.S.Source.left g.S.Source.faults c.args.source.now c.read.new.self in
    let all = fed_taken c.args.limit c.loop-alloc.taken c.in-Ok.count source (g.S.Source.left c.loop-alloc.source) c.args.formula.now c.args.self.now c.loop-alloc.formula c.loop-alloc.self (take c.in-Ok.count c.read.new.buf)
    c.loop-alloc.invariant.fed c.in-Ok.ensures.bytes.0 (sym c.in-Ok.ensures.bound.1) in
    (all.0, all.1, all.2 ∙ omega (arith, size, over))

pub loop-alloc-smaller : goal.loop-alloc-smaller
loop-alloc-smaller g c =
    let few = c.loop-alloc.invariant.fed.few in
    let some = c.if-count-eq0.false in
    first_of (omega (arith, few, some), grind (arith, common_steps))

pub loop-alloc-preserved : goal.loop-alloc-preserved
loop-alloc-preserved g c =
    let few : c.loop-alloc.taken + c.in-Ok.count ≤ c.args.limit = let within = c.if-limit-taken.false in omega (arith, within) in
    let cause = c.in-Ok.ensures.cause in
    record {
      fed = fed_further c.args.limit c.loop-alloc.taken c.in-Ok.count (g.S.Source.left c.args.source.now) (g.S.Source.left c.loop-alloc.source) (g.S.Source.left c.read.new.self)
          c.args.formula.now c.loop-alloc.formula c.take.new.formula c.args.self.now c.loop-alloc.self c.take.new.self (take c.in-Ok.count c.read.new.buf) c.loop-alloc.invariant.fed
          c.in-Ok.ensures.bytes.0 (sym c.in-Ok.ensures.bound.1) few c.in-Ok-take.ensures;
      block = first_of (search rules, grind (arith, common_steps));
      count = omega (arith, c.loop-alloc.invariant.count, cause.later);
    }

pub returns-clause-reads : goal.returns-clause-reads
returns-clause-reads g c =
    fed_steps c.args.limit c.loop-alloc.taken (passage g.S.Source.left g.S.Source.faults c.args.source.now c.loop-alloc.source) c.args.formula.now c.args.self.now c.loop-alloc.formula c.loop-alloc.self c.loop-alloc.invariant.fed
    (λ on. false≢true (sym c.loop-alloc-test.false ∙ c.goes_on.ensures.1 on))

pub returns-in_default-take-clause-reads : goal.returns-in_default-take-clause-reads
returns-in_default-take-clause-reads g c =
    let few : c.loop-alloc.taken + c.in-Ok.count ≤ c.args.limit = let within = c.if-limit-taken.false in omega (arith, within) in
    let source = passage g.S.Source.left g.S.Source.faults c.args.source.now c.read.new.self in
    fed_at_most c.args.limit c.loop-alloc.taken c.in-Ok.count source (g.S.Source.left c.loop-alloc.source) c.args.formula.now c.args.self.now c.loop-alloc.formula c.loop-alloc.self
    (take c.in-Ok.count c.read.new.buf) c.loop-alloc.invariant.fed c.in-Ok.ensures.bytes.0 (sym c.in-Ok.ensures.bound.1) few
