use Rattle.std.proofs.Common.{arith, subst, length-append, ◌∷◌, []}
use Rattle.bt_net.specs.PinText.{IsDemandHere}
use Rattle.bt_net.proofs.ItemLines.{items_push, shorter}
use Rattle.bt_net.proofs.SideSpelling.{demand_here_apart, demand_here-some, demand_here-lacks}
use Rattle.bt_net.proofs.reading.read_demands.Goals as goal

pub loop-demand-preserved : goal.loop-demand-preserved
loop-demand-preserved c =
    let n = c.args.wiring.now in
    let some = demand_here-some c.args.admitted n _ c.first_line.result.0.now c.in-Some.demand c.in-Some.ensures.some in
    rw c.in_ok-push.ensures.items (record {
      lines = items_push (IsDemandHere c.args.admitted n) (demand_here_apart c.args.admitted n c.requires.small) (demand_here-some c.args.admitted n) (demand_here-lacks c.args.admitted n c.requires.small)
          _ c.args.text.now c.loop-demand.rest.now c.first_line.result.0.now c.first_line.result.1.now c.loop-demand.demands.items c.in-Some.demand c.loop-demand.invariant.lines c.first_line.ensures (subst (λ k. IsDemandHere c.args.admitted n k c.first_line.result.0.now c.in-Some.demand) (omega arith) c.in-Some.ensures.some);
      short = omega (arith, length-append c.loop-demand.demands.items (c.in-Some.demand ∷ []), shorter c.loop-demand.rest.now c.first_line.result.0.now c.first_line.result.1.now c.first_line.ensures some);
    })
