use Rattle.std.proofs.Common.{take, get_or, sym, subst, ◌+◌, arith}
use Rattle.std.proofs.lemmas.List.{get_or_default}
use Rattle.std.proofs.lemmas.Result.{err_from_is_err_and}
use Rattle.bt_flow.specs.Sums.{nothing, RunsTo, fractions_where}
use Rattle.bt_flow.specs.Properties.{is_last}
use Rattle.bt_flow.proofs.Adding.{picks, skips, picks_wide, is_last-yes, is_last-no, no_edge}
use Rattle.bt_flow.proofs.sums.output_sum.Goals as goal
use Rattle.bt_flow.proofs.sums.output_sum.Goals.{in-Output+in_ok-sum, in_default}

pub returns-in_err-sum-clause-wide : goal.returns-in_err-sum-clause-wide
returns-in_err-sum-clause-wide c =
    let p = err_from_is_err_and c.from_residual.result c.from_residual.ensures.1 in
    rw (p.1, p.2) (picks_wide is_last c.args.edges.now c.args.flows.now c.requires c.loop-place.place c.loop-place-test.true _ c.index-flows-place.result c.index-flows-place.is
    (is_last-yes (get_or c.args.edges.now c.loop-place.place no_edge) c.in-Output.field-0 c.in-Output.is) c.loop-place.sum c.in_err-sum.field-0.0.left c.in_err-sum.field-0.0.right c.loop-place.invariant c.in_err-sum.ensures.wide)

pub loop-place-preserved : goal.loop-place-preserved
loop-place-preserved c =
    elim c.match-edge.branch [
      | in-Output+in_ok-sum w ↦
          subst (λ v. RunsTo nothing (fractions_where is_last (take (c.loop-place.place + 1) c.args.edges.now) (take (c.loop-place.place + 1) c.args.flows.now)) v) (sym w.sum-is)
          (picks is_last c.args.edges.now c.args.flows.now c.requires c.loop-place.place c.loop-place-test.true _ w.index-flows-place.result w.index-flows-place.is
          (is_last-yes (get_or c.args.edges.now c.loop-place.place no_edge) w.in-Output.field-0 w.in-Output.is) c.loop-place.sum w.in_ok-sum.sum c.loop-place.invariant w.in_ok-sum.ensures.sum)
      | in_default w ↦
          subst (λ v. RunsTo nothing (fractions_where is_last (take (c.loop-place.place + 1) c.args.edges.now) (take (c.loop-place.place + 1) c.args.flows.now)) v) (sym w.sum-is)
          (skips is_last c.args.edges.now c.args.flows.now c.requires c.loop-place.place c.loop-place-test.true _
          (get_or c.args.flows.now c.loop-place.place nothing) (get_or_default c.args.flows.now c.loop-place.place nothing _ (let l = c.loop-place-test.true in let e = c.requires in omega (arith, l, e)))
          (is_last-no (get_or c.args.edges.now c.loop-place.place no_edge) w.in_default.field-0 w.in_default.is) c.loop-place.sum c.loop-place.invariant)
    ]
