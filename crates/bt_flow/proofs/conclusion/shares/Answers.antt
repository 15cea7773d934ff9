use Rattle.std.proofs.Common.{◌≡◌, ℕ, ◌<◌, ◌≤◌, ◌≤ℤ◌, ◌<ℤ◌, ◌==◌, true, IsTrue, List, length, get_or, sym, subst, refl, ap, ◌∙◌, arith}
use Rattle.std.proofs.lemmas.Bool.{false≢true, eqb-true, eq-eqb}
use Rattle.std.proofs.lemmas.Option.{get_or_from_slice_get, slice_get-get_or}
use Rattle.bt_net.specs.declared.network.Edge.{Edge}
use Rattle.bt_net.specs.Network.{Network}
use Rattle.bt_flow.specs.declared.ports.End.{End}
use Rattle.bt_flow.specs.declared.ports.Role.{Role}
use Rattle.bt_flow.specs.Steady.{HasEdge}
use Rattle.bt_flow.specs.Ports.{plays, role_of}
use Rattle.bt_flow.specs.States.{flow_at}
use Rattle.bt_flow.specs.inner.Shares.{IsGreatest, limit_at}
use Rattle.bt_flow.proofs.AtEdges.{flow_read}
use Rattle.bt_flow.proofs.Adding.{no_edge}
use Rattle.bt_flow.proofs.Agreeing.{takes_not}
use Rattle.bt_flow.proofs.Fairness.{greatest_within, limit_within, limit_read, shares_all, shares_none, shares_not, so_far_more}
use Rattle.bt_flow.proofs.conclusion.shares.Goals as goal
use Rattle.bt_flow.proofs.conclusion.shares.Goals.{in-Some-number_in+else-not-reaches_one, in_default-number_in}

pub returns-in_default : goal.returns-in_default
returns-in_default c = λ s h.
    shares_none c.args.net.now c.args.state.now c.args.end c.greatest.result c.in_default.is
    (subst (λ r. IsGreatest c.args.net.now c.args.state.now r (length c.args.net.now.edges) c.greatest.result) c.role-role.ensures c.greatest.ensures) s

-- the edge at a place has the role of the ends at this number, and at no other
module _ (n : Network) (end : End) (r : Role) (is : r ≡ role_of end) (edges : List Edge) (place number : ℕ) (same : edges ≡ n.edges) (l : place < length edges)
    (has : (k : ℕ) → plays r k (get_or edges place no_edge) ≡ (number == k)) where
  here : (e : Edge) × HasEdge n place e × IsTrue (plays (role_of end) number e)
  here = (
    get_or n.edges place no_edge,
    slice_get-get_or n.edges place no_edge (subst (λ x. place < length x) same l),
    subst (λ q. plays q number (get_or n.edges place no_edge) ≡ true) is (subst (λ x. plays r number (get_or x place no_edge) ≡ true) same (has number ∙ eq-eqb number number refl)),
  )

  only_here : (j : ℕ) (e : Edge) → HasEdge n place e → IsTrue (plays (role_of end) j e) → number ≡ j
  only_here j e h p =
      let at = ap (λ x. get_or x place no_edge) same ∙ get_or_from_slice_get n.edges place e no_edge h in
      eqb-true number j (sym (has j) ∙ ap (plays r j) at ∙ ap (λ q. plays q j e) is ∙ p)

pub bounds-limits-number : goal.bounds-limits-number
bounds-limits-number c =
    let n = c.args.net.now in
    let place = c.loop-place.place in
    let number = c.in-Some-number_in.number in
    let at = here n c.args.end c.role-role.result c.role-role.ensures c.edges-edge-items.result.now place number c.edges-edge-items.ensures.edges c.loop-place-test.true c.in-Some-number_in.ensures.some in
    subst (λ x. number < length x) (sym c.limits-limits.ensures) (limit_within n c.args.state.now c.args.end c.edges-edge-items.ensures.network c.requires place number at.0 at.1 at.2)

pub returns-then-not-reaches_one : goal.returns-then-not-reaches_one
returns-then-not-reaches_one c = λ s h.
    let n = c.args.net.now in
    let t = c.args.state.now in
    let place = c.loop-place.place in
    let number = c.in-Some-number_in.number in
    let most = c.in-Some.most in
    let edges = c.edges-edge-items.ensures.edges in
    let top = subst (λ r. IsGreatest n t r (length n.edges) c.greatest.result) c.role-role.ensures c.greatest.ensures in
    let at = here n c.args.end c.role-role.result c.role-role.ensures c.edges-edge-items.result.now place number edges c.loop-place-test.true c.in-Some-number_in.ensures.some in
    let lk = limit_within n t c.args.end c.edges-edge-items.ensures.network c.requires place number at.0 at.1 at.2 in
    let lp : place < length t.flows = let a = ap length edges in let b = c.requires.flows in let l = c.loop-place-test.true in omega (arith, a, b, l) in
    let lm : most < length t.flows = let u = greatest_within n t (role_of c.args.end) (length n.edges) most c.greatest.result c.in-Some.is top in let b = c.requires.flows in omega (arith, u, b) in
    let f = flow_read n t s h c.flows-flows.result.now c.flows-flows.ensures.flows place lp c.index-flows-place.result c.index-flows-place.is in
    let g = flow_read n t s h c.flows-flows.result.now c.flows-flows.ensures.flows most lm c.index-flows-most.result c.index-flows-most.is in
    let k = limit_read n t c.args.end s h c.limits-limits.result.now c.limits-limits.ensures number lk c.index-limits-number.result c.index-limits-number.is in
    let test = c.reaches_one.ensures (flow_at s place) (limit_at c.args.end s number) (flow_at s most) s.denominator h.is_state.positive f k g in
    shares_not n t c.args.end most place number at.0 c.greatest.result c.in-Some.is top at.1 at.2 s (λ less. false≢true (sym c.if-not-reaches_one.true ∙ test.1 less))

pub loop-place-preserved : goal.loop-place-preserved
loop-place-preserved c =
    let n = c.args.net.now in
    let t = c.args.state.now in
    let place = c.loop-place.place in
    let most = c.in-Some.most in
    let edges = c.edges-edge-items.ensures.edges in
    elim c.match-number_in.branch [
      | in-Some-number_in+else-not-reaches_one w ↦
          let number = w.in-Some-number_in.number in
          let top = subst (λ r. IsGreatest n t r (length n.edges) c.greatest.result) c.role-role.ensures c.greatest.ensures in
          let at = here n c.args.end c.role-role.result c.role-role.ensures c.edges-edge-items.result.now place number edges c.loop-place-test.true w.in-Some-number_in.ensures.some in
          let lk = limit_within n t c.args.end c.edges-edge-items.ensures.network c.requires place number at.0 at.1 at.2 in
          let lp : place < length t.flows = let a = ap length edges in let b = c.requires.flows in let l = c.loop-place-test.true in omega (arith, a, b, l) in
          let lm : most < length t.flows = let u = greatest_within n t (role_of c.args.end) (length n.edges) most c.greatest.result c.in-Some.is top in let b = c.requires.flows in omega (arith, u, b) in
          so_far_more n t c.args.end most place number c.loop-place.invariant
          (λ s h j e x p.
          let same = only_here n c.args.end c.role-role.result c.role-role.ensures c.edges-edge-items.result.now place number edges c.loop-place-test.true w.in-Some-number_in.ensures.some j e x p in
          let f = flow_read n t s h c.flows-flows.result.now c.flows-flows.ensures.flows place lp w.index-flows-place.result w.index-flows-place.is in
          let g = flow_read n t s h c.flows-flows.result.now c.flows-flows.ensures.flows most lm w.index-flows-most.result w.index-flows-most.is in
          let k = limit_read n t c.args.end s h c.limits-limits.result.now c.limits-limits.ensures number lk w.index-limits-number.result w.index-limits-number.is in
          let test = w.reaches_one.ensures (flow_at s place) (limit_at c.args.end s number) (flow_at s most) s.denominator h.is_state.positive f k g in
          subst (λ i. flow_at s place <ℤ limit_at c.args.end s i → flow_at s most ≤ℤ flow_at s place) same (test.0 w.if-not-reaches_one.false))
      | in_default-number_in w ↦
          so_far_more n t c.args.end most place 0 c.loop-place.invariant
          (λ s h j e x p less.
          absurd (takes_not n c.role-role.result c.edges-edge-items.result.now place no_edge edges c.loop-place-test.true w.in_default-number_in.ensures.none
          (j, (e, x, subst (λ q. plays q j e ≡ true) (sym c.role-role.ensures) p))))
    ]

pub returns : goal.returns
returns c = λ s h.
    let n = c.args.net.now in
    let t = c.args.state.now in
    shares_all n t c.args.end c.in-Some.most c.loop-place.place c.greatest.result c.in-Some.is
    (subst (λ r. IsGreatest n t r (length n.edges) c.greatest.result) c.role-role.ensures c.greatest.ensures)
    (subst (λ x. length x ≤ c.loop-place.place) c.edges-edge-items.ensures.edges c.loop-place-test.false) c.loop-place.invariant s h
