use Rattle.std.proofs.Common.{◌<◌, ◌≤◌, ◌+◌, length, sym, subst, ◌∙◌, arith}
use Rattle.std.proofs.lemmas.Bool.{false≢true}
use Rattle.bt_flow.specs.States.{flow_at}
use Rattle.bt_flow.specs.inner.Shares.{IsGreatest}
use Rattle.bt_flow.proofs.AtEdges.{flow_read}
use Rattle.bt_flow.proofs.Adding.{no_edge}
use Rattle.bt_flow.proofs.Agreeing.{takes, takes_not}
use Rattle.bt_flow.proofs.Fairness.{less_all, greatest_none, greatest_first, greatest_kept, greatest_new, greatest_within, greatest_whole}
use Rattle.bt_flow.proofs.conclusion.greatest.Goals as goal
use Rattle.bt_flow.proofs.conclusion.greatest.Goals.{in-Some+in-None, in-Some+in-Some-most+then-not-is_at_most, in-Some+in-Some-most+else-not-is_at_most, in_default}

pub loop-place-preserved : goal.loop-place-preserved
loop-place-preserved c =
    let n = c.args.net.now in
    let t = c.args.state.now in
    let r = c.args.role in
    let place = c.loop-place.place in
    let edges = c.edges-edge-items.ensures.edges in
    let inside : place < length n.edges = subst (λ x. place < length x) edges c.loop-place-test.true in
    elim c.match-number_in.branch [
      | in-Some+in-None w ↦
          subst (IsGreatest n t r (place + 1)) (sym w.most-is)
          (greatest_first n t r place c.loop-place.most w.in-None.is c.loop-place.invariant
          (takes n r c.edges-edge-items.result.now place no_edge edges c.loop-place-test.true w.in-Some.field-0 w.in-Some.ensures.some) inside)
      | in-Some+in-Some-most+then-not-is_at_most w ↦
          let lp : place < length t.flows = let b = c.requires.flows in omega (arith, b, inside) in
          let le : w.in-Some-most.earlier < length t.flows =
          let u = greatest_within n t r place w.in-Some-most.earlier c.loop-place.most w.in-Some-most.is c.loop-place.invariant in
          let b = c.requires.flows in omega (arith, u, b) in
          subst (IsGreatest n t r (place + 1)) (sym w.most-is)
          (greatest_new n t r place w.in-Some-most.earlier c.loop-place.most w.in-Some-most.is c.loop-place.invariant
          (λ s h.
          let f = flow_read n t s h c.flows-flows.result.now c.flows-flows.ensures.flows place lp w.index-flows-place.result w.index-flows-place.is in
          let g = flow_read n t s h c.flows-flows.result.now c.flows-flows.ensures.flows w.in-Some-most.earlier le w.index-flows-earlier.result w.index-flows-earlier.is in
          less_all (flow_at s place) (flow_at s w.in-Some-most.earlier)
          (λ l. false≢true (sym w.if-not-is_at_most.true ∙ (w.is_at_most.ensures (flow_at s place) (flow_at s w.in-Some-most.earlier) s.denominator h.is_state.positive f g).1 l)))
          (takes n r c.edges-edge-items.result.now place no_edge edges c.loop-place-test.true w.in-Some.field-0 w.in-Some.ensures.some) inside)
      | in-Some+in-Some-most+else-not-is_at_most w ↦
          let lp : place < length t.flows = let b = c.requires.flows in omega (arith, b, inside) in
          let le : w.in-Some-most.earlier < length t.flows =
          let u = greatest_within n t r place w.in-Some-most.earlier c.loop-place.most w.in-Some-most.is c.loop-place.invariant in
          let b = c.requires.flows in omega (arith, u, b) in
          subst (IsGreatest n t r (place + 1)) (w.in-Some-most.is ∙ sym w.most-is)
          (greatest_kept n t r place w.in-Some-most.earlier c.loop-place.most w.in-Some-most.is c.loop-place.invariant
          (λ s h.
          let f = flow_read n t s h c.flows-flows.result.now c.flows-flows.ensures.flows place lp w.index-flows-place.result w.index-flows-place.is in
          let g = flow_read n t s h c.flows-flows.result.now c.flows-flows.ensures.flows w.in-Some-most.earlier le w.index-flows-earlier.result w.index-flows-earlier.is in
          (w.is_at_most.ensures (flow_at s place) (flow_at s w.in-Some-most.earlier) s.denominator h.is_state.positive f g).0 w.if-not-is_at_most.false))
      | in_default w ↦
          subst (IsGreatest n t r (place + 1)) (sym w.most-is)
          (greatest_none n t r place c.loop-place.most c.loop-place.invariant
          (takes_not n r c.edges-edge-items.result.now place no_edge edges c.loop-place-test.true w.in_default.ensures.none))
    ]

pub returns : goal.returns
returns c =
    greatest_whole c.args.net.now c.args.state.now c.args.role c.loop-place.place c.loop-place.most c.loop-place.invariant
    (subst (λ x. length x ≤ c.loop-place.place) c.edges-edge-items.ensures.edges c.loop-place-test.false)
