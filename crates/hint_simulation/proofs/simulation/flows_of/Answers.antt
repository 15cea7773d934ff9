use Rattle.std.proofs.Common.{List, ℕ, subst, sym, take, ◌+◌}
use Rattle.std.specs.List.{AllZip}
use Rattle.hint_simulation.specs.Simulations.{IsWithinCap}
use Rattle.hint_simulation.proofs.Flows.{flow_more}
use Rattle.hint_simulation.proofs.simulation.flows_of.Goals as goal

pub loop-place-preserved : goal.loop-place-preserved
loop-place-preserved c =
    let edges = c.args.edges.now in
    let more = flow_more edges c.loop-place.flows.items c.loop-place.place _ c.mean_flow.result c.loop-place-test.true c.loop-place.invariant c.mean_flow.ensures in
    subst (λ (l : List ℕ). AllZip IsWithinCap (take (c.loop-place.place + 1) edges) l) (sym c.in_ok-push.ensures.items) more
