use Rattle.std.proofs.Common.{append-nil, sym}
use Rattle.bt_demands.specs.Classes as classing
use Rattle.bt_facts.proofs.Drawn.{flat_named_kept}
use Rattle.bt_demands.proofs.plan.push_shared.Goals as goal

pub loop-splitter-init : goal.loop-splitter-init
loop-splitter-init c = sym (append-nil c.args.found.now.items)

pub loop-splitter-preserved : goal.loop-splitter-preserved
loop-splitter-preserved c = flat_named_kept (classing.occurs c.args.request.now) classing.shared_into c.args.found.now.items c.loop-splitter.found.items c.push_shared_into.new.found.items c.loop-splitter.splitter c.loop-splitter.invariant c.in_ok-push_shared_into.ensures
