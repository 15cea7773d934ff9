use Rattle.std.proofs.Common.{◌∷◌, [], cond, sym, ◌∙◌, ap}
use Rattle.std.specs.List.{filter}
use Rattle.bt_demands.specs.Classes as classing
use Rattle.bt_arena.proofs.Loops.{taken_more, taken_all, filter_flat}
use Rattle.bt_demands.proofs.plan.sources.Goals as goal

pub loop-class-preserved : goal.loop-class-preserved
loop-class-preserved c = taken_more (λ k. cond (classing.goes_to c.args.request.now k c.args.splitter) (k ∷ []) []) c.args.classes.now [] c.loop-class.found.items c.push_source.new.found.items c.loop-class.class-index _ c.loop-class-test.true c.loop-class.invariant (c.in_ok-push_source.ensures)

pub returns : goal.returns
returns c = taken_all (λ k. cond (classing.goes_to c.args.request.now k c.args.splitter) (k ∷ []) []) c.args.classes.now [] c.loop-class.found.items c.loop-class.class-index c.loop-class-test.false c.loop-class.invariant ∙ sym (filter_flat (λ k. classing.goes_to c.args.request.now k c.args.splitter) c.args.classes.now) ∙ ap (filter (λ k. classing.goes_to c.args.request.now k c.args.splitter)) c.requires
