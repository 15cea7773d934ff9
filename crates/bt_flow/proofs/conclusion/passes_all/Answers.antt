use Rattle.std.proofs.Common.{inl, inr, subst}
use Rattle.std.proofs.lemmas.Result.{err_from_is_err_and}
use Rattle.bt_flow.specs.Properties.{is_last, total}
use Rattle.bt_flow.specs.Steady.{sum_where}
use Rattle.bt_flow.specs.Sums.{nothing, RunsTo, IsWideIn}
use Rattle.bt_flow.proofs.Totals.{sum_over, total_over, same_fractions}
use Rattle.bt_flow.proofs.conclusion.passes_all.Goals as goal

pub returns-in_err-outputs : goal.returns-in_err-outputs
returns-in_err-outputs c =
    let outputs = same_fractions is_last c.edges.result.now c.args.net.now.edges c.flows.result.now c.args.state.now.flows c.edges.ensures.edges c.flows.ensures.flows in
    let p = err_from_is_err_and c.from_residual.result c.from_residual.ensures.1 in
    rw (p.1, p.2) (inl (subst (λ l. IsWideIn c.in_err-outputs.field-0.0.left c.in_err-outputs.field-0.0.right l) outputs c.in_err-outputs.ensures.wide))

pub returns-in_err-loads : goal.returns-in_err-loads
returns-in_err-loads c =
    let outputs = same_fractions is_last c.edges.result.now c.args.net.now.edges c.flows.result.now c.args.state.now.flows c.edges.ensures.edges c.flows.ensures.flows in
    let p = err_from_is_err_and c.from_residual-in_err-loads.result c.from_residual-in_err-loads.ensures.1 in
    rw (p.1, p.2) (inr (
      c.in_ok-outputs.outputs,
      subst (λ l. RunsTo nothing l c.in_ok-outputs.outputs) outputs c.in_ok-outputs.ensures.sum,
      inl (subst (λ l. IsWideIn c.in_err-loads.field-0.0.left c.in_err-loads.field-0.0.right l) c.loads.ensures c.in_err-loads.ensures.wide),
    ))

pub returns-in_err-rooms : goal.returns-in_err-rooms
returns-in_err-rooms c =
    let outputs = same_fractions is_last c.edges.result.now c.args.net.now.edges c.flows.result.now c.args.state.now.flows c.edges.ensures.edges c.flows.ensures.flows in
    let p = err_from_is_err_and c.from_residual-in_err-rooms.result c.from_residual-in_err-rooms.ensures.1 in
    rw (p.1, p.2) (inr (
      c.in_ok-outputs.outputs,
      subst (λ l. RunsTo nothing l c.in_ok-outputs.outputs) outputs c.in_ok-outputs.ensures.sum,
      inr (
        c.in_ok-loads.loads,
        subst (λ l. RunsTo nothing l c.in_ok-loads.loads) c.loads.ensures c.in_ok-loads.ensures.sum,
        inl (subst (λ l. IsWideIn c.in_err-rooms.field-0.0.left c.in_err-rooms.field-0.0.right l) c.rooms.ensures c.in_err-rooms.ensures.wide),
      ),
    ))

pub returns : goal.returns
returns c =
    let t = c.args.state.now in
    let edges = c.args.net.now.edges in
    let outputs =
    subst (λ l. RunsTo nothing l c.in_ok-outputs.outputs) (same_fractions is_last c.edges.result.now edges c.flows.result.now t.flows c.edges.ensures.edges c.flows.ensures.flows)
    c.in_ok-outputs.ensures.sum in
    let loads = subst (λ l. RunsTo nothing l c.in_ok-loads.loads) c.loads.ensures c.in_ok-loads.ensures.sum in
    let rooms = subst (λ l. RunsTo nothing l c.in_ok-rooms.rooms) c.rooms.ensures c.in_ok-rooms.ensures.sum in (
      λ s h.
          c.is_lesser.ensures (sum_where is_last edges s.flows) (total s.loads) (total s.rooms) s.denominator h.is_state.positive
          (sum_over is_last c.in_ok-outputs.outputs edges t.flows s.flows s.denominator outputs h.flows)
          (total_over c.in_ok-loads.loads t.loads s.loads s.denominator loads h.loads) (total_over c.in_ok-rooms.rooms t.rooms s.rooms s.denominator rooms h.rooms),
      ((c.in_ok-outputs.outputs, outputs), ((c.in_ok-loads.loads, loads), ((c.in_ok-rooms.rooms, rooms), tt))),
    )
