use Rattle.std.proofs.Common.{subst, sym, ◌∙◌}
use Rattle.std.proofs.lemmas.Bool.{false≢true}
use Rattle.bt_cert.specs.inner.Defining.{TakesLine}
use Rattle.bt_cert.proofs.Defined.{after_shorter, front_halted, front_kept, front_line, front_none, when_ok}
use Rattle.bt_cert.proofs.defining.Defining.take.Goals as goal

pub loop-alloc-init : goal.loop-alloc-init
loop-alloc-init c = front_none c.args.formula.now c.args.self.now c.args.piece.now

pub returns-in_default : goal.returns-in_default
returns-in_default c =
    when_ok c.keep.result
    (λ is. front_kept c.args.formula.now c.loop-alloc.formula c.args.self.now c.loop-alloc.self c.keep.new.self c.args.piece.now c.loop-alloc.rest.now c.loop-alloc.invariant
    (λ on. c.in_default.ensures.none) is)
    c.keep.ensures

pub returns-then-not-branch : goal.returns-then-not-branch
returns-then-not-branch c =
    let takes = subst (TakesLine c.loop-alloc.formula c.loop-alloc.self c.in-Some.line.now c.take_line.new.formula c.take_line.new.self) c.if-not-branch.true c.in_ok-take_line.ensures in
    when_ok c.stop.result
    (λ is. front_halted c.args.formula.now c.loop-alloc.formula c.take_line.new.formula c.args.self.now c.loop-alloc.self c.take_line.new.self c.stop.new.self c.args.piece.now
    c.loop-alloc.rest.now c.in-Some.line.now c.in-Some.after.now c.loop-alloc.invariant (c.goes_on.ensures.0 c.loop-alloc-test.true) c.in-Some.ensures.some takes is)
    c.stop.ensures

pub loop-alloc-smaller : goal.loop-alloc-smaller
loop-alloc-smaller c = after_shorter c.loop-alloc.rest.now c.in-Some.line.now c.in-Some.after.now c.in-Some.ensures.some

pub loop-alloc-preserved : goal.loop-alloc-preserved
loop-alloc-preserved c =
    let takes = subst (TakesLine c.loop-alloc.formula c.loop-alloc.self c.in-Some.line.now c.take_line.new.formula c.take_line.new.self) c.if-not-branch.false c.in_ok-take_line.ensures in
    front_line c.args.formula.now c.loop-alloc.formula c.take_line.new.formula c.args.self.now c.loop-alloc.self c.take_line.new.self c.args.piece.now c.loop-alloc.rest.now
    c.in-Some.line.now c.in-Some.after.now c.loop-alloc.invariant (c.goes_on.ensures.0 c.loop-alloc-test.true) c.in-Some.ensures.some takes

pub returns : goal.returns
returns c =
    when_ok c.keep-2.result
    (λ is. front_kept c.args.formula.now c.loop-alloc.formula c.args.self.now c.loop-alloc.self c.keep-2.new.self c.args.piece.now c.loop-alloc.rest.now c.loop-alloc.invariant
    (λ on. absurd (false≢true (sym c.loop-alloc-test.false ∙ c.goes_on.ensures.1 on))) is)
    c.keep-2.ensures
