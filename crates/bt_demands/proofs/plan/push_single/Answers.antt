use Rattle.std.proofs.Common.{append-nil, sym}
use Rattle.bt_demands.specs.Classes as classing
use Rattle.bt_facts.specs.declared.fact.Class.TheVariants as class
use Rattle.bt_facts.proofs.Drawn.{named_kept}
use Rattle.bt_demands.proofs.plan.push_single.Goals as goal

pub loop-input-init : goal.loop-input-init
loop-input-init c = sym (append-nil c.args.found.now.items)

pub loop-input-preserved : goal.loop-input-preserved
loop-input-preserved c = named_kept (classing.occurs c.args.request.now) class.Input c.args.found.now.items c.loop-input.found.items c.push_occurring.new.found.items c.loop-input.input c.loop-input.invariant c.in_ok-push_occurring.ensures
