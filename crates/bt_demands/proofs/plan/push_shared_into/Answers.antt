use Rattle.std.proofs.Common.{◌++◌, ◌∷◌, [], cond, append-nil, sym, ◌∙◌, ap}
use Rattle.bt_demands.specs.Classes as classing
use Rattle.bt_facts.specs.declared.fact.Class.TheVariants as class
use Rattle.bt_arena.proofs.Loops.{taken_more, taken_all}
use Rattle.bt_facts.proofs.Drawn.{flat_kept}
use Rattle.bt_demands.proofs.plan.push_shared_into.Goals as goal

pub loop-way-init : goal.loop-way-init
loop-way-init c = sym (append-nil c.args.found.now.items)

pub loop-way-preserved : goal.loop-way-preserved
loop-way-preserved c = taken_more (λ w. cond (classing.occurs c.args.request.now (class.Shared c.args.splitter w)) (class.Shared c.args.splitter w ∷ []) []) classing.ways c.args.found.now.items c.loop-way.found.items c.push_occurring.new.found.items c.loop-way.way-index _ c.loop-way-test.true c.loop-way.invariant c.in_ok-push_occurring.ensures

pub returns : goal.returns
returns c = taken_all (λ w. cond (classing.occurs c.args.request.now (class.Shared c.args.splitter w)) (class.Shared c.args.splitter w ∷ []) []) classing.ways c.args.found.now.items c.loop-way.found.items c.loop-way.way-index c.loop-way-test.false c.loop-way.invariant
    ∙ ap (λ l. c.args.found.now.items ++ l) (flat_kept (classing.occurs c.args.request.now) (class.Shared c.args.splitter) classing.ways)
