use Rattle.std.proofs.Common.{◌∷◌, [], cond, sym, ◌∙◌, not}
use Rattle.bt_demands.specs.Classes as classing
use Rattle.bt_arena.proofs.Loops.{taken_more, taken_all, filter_flat}
use Rattle.bt_demands.proofs.plan.kept_of.Goals as goal

pub loop-class-preserved : goal.loop-class-preserved
loop-class-preserved c = taken_more (λ k. cond (not (classing.ends_out c.args.request.now k)) (k ∷ []) []) c.args.classes.now [] c.loop-class.found.items c.push_kept.new.found.items c.loop-class.class-index _ c.loop-class-test.true c.loop-class.invariant (c.in_ok-push_kept.ensures)

pub returns : goal.returns
returns c = taken_all (λ k. cond (not (classing.ends_out c.args.request.now k)) (k ∷ []) []) c.args.classes.now [] c.loop-class.found.items c.loop-class.class-index c.loop-class-test.false c.loop-class.invariant ∙ sym (filter_flat (λ k. not (classing.ends_out c.args.request.now k)) c.args.classes.now)
