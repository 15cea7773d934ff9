use Rattle.std.proofs.Common.{◌<◌, ◌≤◌, ◌+◌, length, sym, subst, ap, ◌∙◌, arith}
use Rattle.std.proofs.lemmas.Bool.{false≢true}
use Rattle.bt_flow.specs.States.{flow_at}
use Rattle.bt_flow.proofs.AtEdges.{flow_read}
use Rattle.bt_flow.proofs.Adding.{no_edge}
use Rattle.bt_flow.proofs.Agreeing.{AgreeSoFar, takes, takes_not, so_far_none, so_far_first, so_far_same, agree_all, agree_not, first_within}
use Rattle.bt_flow.proofs.conclusion.agree.Goals as goal
use Rattle.bt_flow.proofs.conclusion.agree.Goals.{in-Some+in-None, in-Some+in-Some-first+else-not-is_same, in_default}

pub returns-then-not-is_same : goal.returns-then-not-is_same
returns-then-not-is_same c = λ s h.
    let n = c.args.net.now in
    let t = c.args.state.now in
    let edges = c.edges-edge-items.ensures.edges in
    let lp : c.loop-place.place < length t.flows = let a = ap length edges in let b = c.requires.flows in let l = c.loop-place-test.true in omega (arith, a, b, l) in
    let le : c.in-Some-first.earlier < length t.flows =
    let w = first_within n t c.args.role c.loop-place.place c.in-Some-first.earlier c.loop-place.first c.in-Some-first.is c.loop-place.invariant in
    let b = c.requires.flows in omega (arith, w, b) in
    let f = flow_read n t s h c.flows-flows.result.now c.flows-flows.ensures.flows c.in-Some-first.earlier le c.index-flows-earlier.result c.index-flows-earlier.is in
    let g = flow_read n t s h c.flows-flows.result.now c.flows-flows.ensures.flows c.loop-place.place lp c.index-flows-place.result c.index-flows-place.is in
    let same = c.is_same.ensures (flow_at s c.in-Some-first.earlier) (flow_at s c.loop-place.place) s.denominator h.is_state.positive f g in
    agree_not n t c.args.role c.loop-place.place c.in-Some-first.earlier c.loop-place.first c.in-Some-first.is c.loop-place.invariant
    (takes n c.args.role c.edges-edge-items.result.now c.loop-place.place no_edge edges c.loop-place-test.true c.in-Some.field-0 c.in-Some.ensures.some) s
    (λ e. false≢true (sym c.if-not-is_same.true ∙ same.1 e))

pub loop-place-preserved : goal.loop-place-preserved
loop-place-preserved c =
    let n = c.args.net.now in
    let t = c.args.state.now in
    let edges = c.edges-edge-items.ensures.edges in
    let inside : c.loop-place.place < length n.edges = subst (λ x. c.loop-place.place < length x) edges c.loop-place-test.true in
    elim c.match-number_in.branch [
      | in-Some+in-None w ↦
          subst (AgreeSoFar n t c.args.role (c.loop-place.place + 1)) (sym w.first-is)
          (so_far_first n t c.args.role c.loop-place.place c.loop-place.first w.in-None.is c.loop-place.invariant
          (takes n c.args.role c.edges-edge-items.result.now c.loop-place.place no_edge edges c.loop-place-test.true w.in-Some.field-0 w.in-Some.ensures.some) inside)
      | in-Some+in-Some-first+else-not-is_same w ↦
          let lp : c.loop-place.place < length t.flows = let b = c.requires.flows in omega (arith, b, inside) in
          let le : w.in-Some-first.earlier < length t.flows =
          let u = first_within n t c.args.role c.loop-place.place w.in-Some-first.earlier c.loop-place.first w.in-Some-first.is c.loop-place.invariant in
          let b = c.requires.flows in omega (arith, u, b) in
          subst (AgreeSoFar n t c.args.role (c.loop-place.place + 1)) (w.in-Some-first.is ∙ sym w.first-is)
          (so_far_same n t c.args.role c.loop-place.place w.in-Some-first.earlier c.loop-place.first w.in-Some-first.is c.loop-place.invariant
          (λ s h.
          let f = flow_read n t s h c.flows-flows.result.now c.flows-flows.ensures.flows w.in-Some-first.earlier le w.index-flows-earlier.result w.index-flows-earlier.is in
          let g = flow_read n t s h c.flows-flows.result.now c.flows-flows.ensures.flows c.loop-place.place lp w.index-flows-place.result w.index-flows-place.is in
          (w.is_same.ensures (flow_at s w.in-Some-first.earlier) (flow_at s c.loop-place.place) s.denominator h.is_state.positive f g).0 w.if-not-is_same.false))
      | in_default w ↦
          subst (AgreeSoFar n t c.args.role (c.loop-place.place + 1)) (sym w.first-is)
          (so_far_none n t c.args.role c.loop-place.place c.loop-place.first c.loop-place.invariant
          (takes_not n c.args.role c.edges-edge-items.result.now c.loop-place.place no_edge edges c.loop-place-test.true w.in_default.ensures.none))
    ]

pub returns : goal.returns
returns c = λ s h.
    let l : length c.args.net.now.edges ≤ c.loop-place.place = subst (λ x. length x ≤ c.loop-place.place) c.edges-edge-items.ensures.edges c.loop-place-test.false in
    agree_all c.args.net.now c.args.state.now c.args.role c.loop-place.place c.loop-place.first c.loop-place.invariant l s h
