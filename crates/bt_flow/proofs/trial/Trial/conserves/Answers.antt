use Rattle.std.proofs.Common.{◌<◌, Ok, inl, inr, length, get_or, sym, subst, ap, ◌∙◌}
use Rattle.std.proofs.lemmas.Result.{err_from_is_err_and}
use Rattle.bt_flow.specs.declared.judgement.Test.TheVariants as test
use Rattle.bt_flow.specs.declared.ports.Port.TheVariants.{Unused}
use Rattle.bt_flow.specs.declared.ports.Role.TheVariants.{OutOf, Into}
use Rattle.bt_net.specs.Network.{enters, leaves}
use Rattle.bt_flow.specs.Steady.{sum_where}
use Rattle.bt_flow.specs.Sums.{nothing, RunsTo, IsWideIn}
use Rattle.bt_flow.specs.inner.Trials.{IsTested}
use Rattle.bt_flow.proofs.AtPlaces.{port_into, port_out_of}
use Rattle.bt_flow.proofs.Each.{port_below}
use Rattle.bt_flow.proofs.Totals.{port_flows_at, sum_over}
use Rattle.bt_flow.proofs.trial.Trial.conserves.Goals as goal

pub port_sum-requires : goal.port_sum-requires
port_sum-requires c =
    let n = c.self.inside.net.now in
    let t = c.self.inside.state.now in
    let k = c.args.splitter in
    let l : k < n.splitters = subst (λ x. k < x.network.splitters) (sym c.self.view_is) c.requires in
    port_below n Into k (get_or c.self.inside.ports.into k Unused) (port_into n c.self.inside.ports c.self.inside.state.now c.self.inside.flows.now c.self.invariant k l)
    (length c.self.inside.flows.now) (ap length c.self.invariant.flows_are ∙ c.self.invariant.fits.flows)

pub port_sum-requires-2 : goal.port_sum-requires-2
port_sum-requires-2 c =
    let n = c.self.inside.net.now in
    let t = c.self.inside.state.now in
    let k = c.args.splitter in
    let l : k < n.splitters = subst (λ x. k < x.network.splitters) (sym c.self.view_is) c.requires in
    port_below n OutOf k (get_or c.self.inside.ports.out_of k Unused) (port_out_of n c.self.inside.ports c.self.inside.state.now c.self.inside.flows.now c.self.invariant k l)
    (length c.self.inside.flows.now) (ap length c.self.invariant.flows_are ∙ c.self.invariant.fits.flows)

pub returns-in_err-entering : goal.returns-in_err-entering
returns-in_err-entering c =
    let n = c.self.inside.net.now in
    let t = c.self.inside.state.now in
    let k = c.args.splitter in
    let l : k < n.splitters = subst (λ x. k < x.network.splitters) (sym c.self.view_is) c.requires in
    let is_into = port_into n c.self.inside.ports c.self.inside.state.now c.self.inside.flows.now c.self.invariant k l in
    let into = port_flows_at n Into k (get_or c.self.inside.ports.into k Unused) t.flows c.self.inside.flows.now is_into c.self.invariant.fits.flows c.self.invariant.flows_are in
    let p = err_from_is_err_and c.from_residual.result c.from_residual.ensures.1 in
    subst (λ x. IsTested x test.Conserve k c.from_residual.result) c.self.view_is
    (rw (p.1, p.2) (inl (subst (λ l. IsWideIn c.in_err-entering.field-0.0.left c.in_err-entering.field-0.0.right l) into c.in_err-entering.ensures.wide)))

pub returns-in_err-leaving : goal.returns-in_err-leaving
returns-in_err-leaving c =
    let n = c.self.inside.net.now in
    let t = c.self.inside.state.now in
    let k = c.args.splitter in
    let l : k < n.splitters = subst (λ x. k < x.network.splitters) (sym c.self.view_is) c.requires in
    let is_into = port_into n c.self.inside.ports c.self.inside.state.now c.self.inside.flows.now c.self.invariant k l in
    let into = port_flows_at n Into k (get_or c.self.inside.ports.into k Unused) t.flows c.self.inside.flows.now is_into c.self.invariant.fits.flows c.self.invariant.flows_are in
    let is_out_of = port_out_of n c.self.inside.ports c.self.inside.state.now c.self.inside.flows.now c.self.invariant k l in
    let out_of = port_flows_at n OutOf k (get_or c.self.inside.ports.out_of k Unused) t.flows c.self.inside.flows.now is_out_of c.self.invariant.fits.flows c.self.invariant.flows_are in
    let p = err_from_is_err_and c.from_residual-in_err-leaving.result c.from_residual-in_err-leaving.ensures.1 in
    subst (λ x. IsTested x test.Conserve k c.from_residual-in_err-leaving.result) c.self.view_is
    (rw (p.1, p.2) (inr (
      c.in_ok-entering.entering,
      subst (λ l. RunsTo nothing l c.in_ok-entering.entering) into c.in_ok-entering.ensures.sum,
      inl (subst (λ l. IsWideIn c.in_err-leaving.field-0.0.left c.in_err-leaving.field-0.0.right l) out_of c.in_err-leaving.ensures.wide),
    )))

pub returns : goal.returns
returns c =
    let n = c.self.inside.net.now in
    let t = c.self.inside.state.now in
    let k = c.args.splitter in
    let l : k < n.splitters = subst (λ x. k < x.network.splitters) (sym c.self.view_is) c.requires in
    let is_into = port_into n c.self.inside.ports c.self.inside.state.now c.self.inside.flows.now c.self.invariant k l in
    let into = port_flows_at n Into k (get_or c.self.inside.ports.into k Unused) t.flows c.self.inside.flows.now is_into c.self.invariant.fits.flows c.self.invariant.flows_are in
    let is_out_of = port_out_of n c.self.inside.ports c.self.inside.state.now c.self.inside.flows.now c.self.invariant k l in
    let out_of = port_flows_at n OutOf k (get_or c.self.inside.ports.out_of k Unused) t.flows c.self.inside.flows.now is_out_of c.self.invariant.fits.flows c.self.invariant.flows_are in
    let entering = subst (λ l. RunsTo nothing l c.in_ok-entering.entering) into c.in_ok-entering.ensures.sum in
    let leaving = subst (λ l. RunsTo nothing l c.in_ok-leaving.leaving) out_of c.in_ok-leaving.ensures.sum in
    subst (λ x. IsTested x test.Conserve k (Ok c.is_same.result)) c.self.view_is (
      λ s h.
          c.is_same.ensures (sum_where (enters k) n.edges s.flows) (sum_where (leaves k) n.edges s.flows) s.denominator h.is_state.positive
          (sum_over (enters k) c.in_ok-entering.entering n.edges t.flows s.flows s.denominator entering h.flows)
          (sum_over (leaves k) c.in_ok-leaving.leaving n.edges t.flows s.flows s.denominator leaving h.flows),
      ((c.in_ok-entering.entering, entering), ((c.in_ok-leaving.leaving, leaving), tt)),
    )
