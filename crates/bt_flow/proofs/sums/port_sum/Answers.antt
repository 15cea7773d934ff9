use Rattle.std.proofs.Common.{◌≡◌, ◌<◌, length, sym, subst}
use Rattle.std.proofs.lemmas.Result.{err_from_is_err_and, IfErr-weaker}
use Rattle.bt_frac.specs.Ratio.{IsWide}
use Rattle.bt_flow.specs.Sums.{IsWideIn}
use Rattle.bt_flow.proofs.Adding.{wide_first, wide_second, flows_one, flows_two, flows_first}
use Rattle.bt_flow.proofs.AtEdges.{port_one_is, port_first_is, port_second_is}
use Rattle.bt_flow.proofs.sums.port_sum.Goals as goal

pub returns-in_err-sum-in-Two-clause-wide : goal.returns-in_err-sum-in-Two-clause-wide
returns-in_err-sum-in-Two-clause-wide c =
    let p = err_from_is_err_and c.from_residual.result c.from_residual.ensures.1 in
    let first = port_first_is (λ a. a < length c.args.flows.now) c.args.port c.in-Two.first c.in-Two.second c.in-Two.is c.requires in
    rw (p.1, p.2) (subst (λ l. IsWideIn c.in_err-sum-in-Two.field-0.0.left c.in_err-sum-in-Two.field-0.0.right l)
    (sym (flows_first c.args.flows.now c.args.port c.in-Two.first c.in-Two.second c.index-flows-first.result c.in-Two.is first c.index-flows-first.is))
    (wide_first c.whole-zero.result c.index-flows-first.result _ _ _ c.whole-zero.ensures c.in_err-sum-in-Two.ensures.wide))

pub returns-in-One-clause-wide : goal.returns-in-One-clause-wide
returns-in-One-clause-wide c =
    let only = port_one_is (λ a. a < length c.args.flows.now) c.args.port c.in-One.only c.in-One.is c.requires in
    let is = flows_one c.args.flows.now c.args.port c.in-One.only c.index-flows-only.result c.in-One.is only c.index-flows-only.is in
    IfErr-weaker c.add.result (λ w. (w.left ≡ c.whole-zero.result) × (w.right ≡ c.index-flows-only.result) × IsWide c.whole-zero.result c.index-flows-only.result) _
    (λ w h. subst (λ l. IsWideIn w.left w.right l) (sym is) (wide_first c.whole-zero.result c.index-flows-only.result w.left w.right _ c.whole-zero.ensures h)) c.add.ensures.wide

pub returns-in_ok-sum-in-Two-clause-wide : goal.returns-in_ok-sum-in-Two-clause-wide
returns-in_ok-sum-in-Two-clause-wide c =
    let first = port_first_is (λ a. a < length c.args.flows.now) c.args.port c.in-Two.first c.in-Two.second c.in-Two.is c.requires in
    let second = port_second_is (λ a. a < length c.args.flows.now) c.args.port c.in-Two.first c.in-Two.second c.in-Two.is c.requires in
    let is = flows_two c.args.flows.now c.args.port c.in-Two.first c.in-Two.second c.index-flows-first.result c.index-flows-second.result c.in-Two.is first second
    c.index-flows-first.is c.index-flows-second.is in
    IfErr-weaker c.add-in-Two-2.result
    (λ w. (w.left ≡ c.in_ok-sum-in-Two.sum) × (w.right ≡ c.index-flows-second.result) × IsWide c.in_ok-sum-in-Two.sum c.index-flows-second.result) _
    (λ w h. subst (λ l. IsWideIn w.left w.right l) (sym is)
    (wide_second c.whole-zero.result c.index-flows-first.result c.index-flows-second.result c.in_ok-sum-in-Two.sum w.left w.right c.whole-zero.ensures c.in_ok-sum-in-Two.ensures.sum h))
    c.add-in-Two-2.ensures.wide
