use Rattle.std.proofs.Common.{◌∙◌, ap, subst, arith}
use Rattle.std.proofs.lemmas.Result.{err_from_is_err_and}
use Rattle.bt_net.specs.Network.{IsNetwork}
use Rattle.bt_net.specs.Priorities.{preferring, merging}
use Rattle.bt_net.proofs.OneReading.{header_answers, edges_answer, last_answers, net_answers, end_prioritised, end_less, end_within, stands}
use Rattle.bt_net.proofs.reading.read.Goals as goal

pub returns-in_err-wiring : goal.returns-in_err-wiring
returns-in_err-wiring c =
    let p = err_from_is_err_and c.from_residual.result c.from_residual.ensures.1 in
    rw (p.1, p.2) (header_answers c.args.admitted _ _ _ c.in_err-wiring.field-0.0 c.first_line.ensures c.in_err-wiring.ensures)

pub returns-in_err-behind_edges : goal.returns-in_err-behind_edges
returns-in_err-behind_edges c =
    let p = err_from_is_err_and c.from_residual-in_err-behind_edges.result c.from_residual-in_err-behind_edges.ensures.1 in
    rw (p.1, p.2) (edges_answer c.args.admitted _ _ _ _ _ c.first_line.ensures c.in_ok-wiring.ensures c.in_err-behind_edges.ensures.sizes c.in_err-behind_edges.field-0.0 c.in_err-behind_edges.ensures.read)

pub returns-in_err-rest : goal.returns-in_err-rest
returns-in_err-rest c =
    let p = err_from_is_err_and c.from_residual-in_err-rest.result c.from_residual-in_err-rest.ensures.1 in
    let edges = c.in_ok-behind_edges.ensures in
    let items = c.in_ok-items.items in
    rw (p.1, p.2) (last_answers c.args.admitted _ _ _ _ _ c.first_line.ensures c.in_ok-wiring.ensures edges.sizes items.preferred items.demands.items items.blocks.items items.lines _ _
    edges.read c.in_ok-items.ensures c.in_err-rest.field-0.0 c.in_err-rest.ensures)

pub returns-in_err-net : goal.returns-in_err-net
returns-in_err-net c =
    let p = err_from_is_err_and c.from_residual-in_err-net.result c.from_residual-in_err-net.ensures.1 in
    let edges = c.in_ok-behind_edges.ensures in
    let items = c.in_ok-items.items in
    let end = c.in_ok-rest.ensures in
    rw (p.1, p.2) (net_answers c.args.admitted _ _ _ _ _ c.first_line.ensures c.in_ok-wiring.ensures edges.sizes items.preferred items.demands.items items.blocks.items items.lines _ _
    edges.read c.in_ok-items.ensures c.in_err-net.field-0.0 _ end.0 end.1 c.in_err-net.ensures.right)

pub preferring-requires : goal.preferring-requires
preferring-requires c =
    let edges = c.in_ok-behind_edges.ensures in
    let items = c.in_ok-items.items in
    rw c.in_ok-net.ensures.right.0 (end_less c.args.admitted _ _ _ _ _ c.first_line.ensures c.in_ok-wiring.ensures edges.sizes items.preferred items.demands.items items.blocks.items items.lines _ _
    edges.read c.in_ok-items.ensures)

pub merging-requires : goal.merging-requires
merging-requires c =
    let edges = c.in_ok-behind_edges.ensures in
    let items = c.in_ok-items.items in
    rw (c.preferring.ensures ∙ ap (λ n. preferring n items.preferred.gives.items items.preferred.takes.items) c.in_ok-net.ensures.right.0)
    (end_prioritised c.args.admitted _ _ _ _ _ c.first_line.ensures c.in_ok-wiring.ensures edges.sizes items.preferred items.demands.items items.blocks.items items.lines _ _
    edges.read c.in_ok-items.ensures)

pub overflow_sub-result : goal.overflow_sub-result
overflow_sub-result c =
    let edges = c.in_ok-behind_edges.ensures in
    let items = c.in_ok-items.items in
    (end_within c.args.admitted _ _ _ _ _ c.first_line.ensures c.in_ok-wiring.ensures edges.sizes items.preferred items.demands.items items.blocks.items items.lines _ _
    edges.read c.in_ok-items.ensures _ c.in_ok-rest.ensures.0).0

pub returns : goal.returns
returns c =
    let edges = c.in_ok-behind_edges.ensures in
    let items = c.in_ok-items.items in
    let net = c.in_ok-net.ensures.right in
    rw (c.merging.ensures ∙ ap (λ n. merging n items.preferred.merges.items) (c.preferring.ensures ∙ ap (λ n. preferring n items.preferred.gives.items items.preferred.takes.items) net.0))
    (stands c.args.admitted _ _ _ _ _ c.first_line.ensures c.in_ok-wiring.ensures edges.sizes items.preferred items.demands.items items.blocks.items items.lines _ _
    edges.read c.in_ok-items.ensures _ c.in_ok-rest.ensures.0 (subst IsNetwork net.0 net.1) _ (omega arith))
