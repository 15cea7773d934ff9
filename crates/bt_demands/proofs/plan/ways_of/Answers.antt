use Rattle.std.proofs.Common.{◌∙◌}
use Rattle.std.proofs.lemmas.List.{take_all}
use Rattle.bt_demands.specs.Plans.{IsWay}
use Rattle.bt_demands.specs.declared.plan.Way.{Way}
use Rattle.bt_facts.proofs.Drawn.{made_more, all_pushed}
use Rattle.bt_demands.proofs.plan.ways_of.Goals as goal

pub loop-class-preserved : goal.loop-class-preserved
loop-class-preserved c = (
  made_more (λ (w : Way). w.class) c.args.classes.now c.loop-class.ways.items c.push.new.self.items c.loop-class.class-index _ c.in_ok-way.way c.loop-class-test.true c.loop-class.invariant.0
      c.in_ok-push.ensures.items c.in_ok-way.ensures.class,
  all_pushed (IsWay c.args.request.now) c.loop-class.ways.items c.push.new.self.items c.in_ok-way.way c.in_ok-push.ensures.items c.loop-class.invariant.1 c.in_ok-way.ensures.is,
)

pub returns-clause-of : goal.returns-clause-of
returns-clause-of c = c.loop-class.invariant.0 ∙ take_all c.loop-class.class-index c.args.classes.now c.loop-class-test.false

pub returns-clause-ways : goal.returns-clause-ways
returns-clause-ways c = c.loop-class.invariant.1
