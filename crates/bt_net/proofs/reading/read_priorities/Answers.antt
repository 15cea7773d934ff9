use Rattle.std.proofs.Common.{◌∙◌, ap, replicate, false}
use Rattle.bt_net.specs.Network.{none_each}
use Rattle.bt_net.proofs.Preferring.{none_so_far, one_more_priority}
use Rattle.bt_net.proofs.reading.read_priorities.Goals as goal

pub loop-priority-init : goal.loop-priority-init
loop-priority-init c =
    none_so_far c.args.admitted c.args.wiring.now c.args.text.now _ c.requires.small.plain (c.in_ok-none_each.ensures ∙ ap none_each c.splitters-splitters.ensures) (c.in_ok-none_each-2.ensures ∙ ap none_each c.splitters-splitters.ensures)
    (c.in_ok-even_each.ensures ∙ ap (λ k. replicate k false) c.splitters-splitters.ensures)

pub loop-priority-preserved : goal.loop-priority-preserved
loop-priority-preserved c =
    let next = c.in-Some.ensures in
    one_more_priority c.args.admitted c.args.wiring.now c.requires.small c.requires.few c.args.text.now c.first_line.result.0.now c.loop-priority.rest.now c.first_line.result.1.now c.loop-priority.preferred c.prefer.new.preferred c.loop-priority.count c.in-Some.priority
    c.loop-priority.invariant c.first_line.ensures next.0 next.1 (c.prefer.ensures c.args.wiring.now)
