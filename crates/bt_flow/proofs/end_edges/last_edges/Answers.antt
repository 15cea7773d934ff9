use Rattle.std.proofs.Common.{◌≡◌, ◌<◌, ◌+◌, ◌∷◌, [], ◌++◌, Bool, true, false, ℕ, List, take, length, cond, get_or, ◌∙◌, ap, sym, subst, append-nil}
use Rattle.bt_net.specs.declared.network.Edge.{Edge}
use Rattle.bt_flow.specs.Ports.{numbers_where}
use Rattle.bt_flow.specs.Properties.{is_last}
use Rattle.bt_flow.proofs.Adding.{is_last-yes, is_last-no, no_edge}
use Rattle.bt_flow.proofs.Numbers.{numbers_more}
use Rattle.bt_flow.proofs.end_edges.last_edges.Goals as goal
use Rattle.bt_flow.proofs.end_edges.last_edges.Goals.{in-Output+in_ok-push-in-Output, in-Split}

one_more : (edges es : List Edge) (same : es ≡ edges) (i : ℕ) (d : Edge) → i < length es → (b : Bool) → is_last (get_or es i d) ≡ b → (now new : List ℕ)
    → now ≡ numbers_where is_last 0 (take i edges) → new ≡ now ++ cond b (i ∷ []) [] → new ≡ numbers_where is_last 0 (take (i + 1) edges)
one_more edges es same i d l b e now new h g =
    let l' : i < length edges = subst (λ x. i < length x) same l in
    let e' : is_last (get_or edges i d) ≡ b = ap (λ x. is_last (get_or x i d)) (sym same) ∙ e in
    g ∙ ap (λ x. x ++ cond b (i ∷ []) []) h ∙ ap (λ c. numbers_where is_last 0 (take i edges) ++ cond c (i ∷ []) []) (sym e') ∙ sym (numbers_more is_last edges i d l')

pub loop-number-preserved : goal.loop-number-preserved
loop-number-preserved c =
    let edges = c.args.net.now.edges in
    let es = c.edges-edge-items.result.now in
    let same = c.edges-edge-items.ensures.edges in
    elim c.match-edge.branch [
      | in-Output+in_ok-push-in-Output w ↦
          one_more edges es same c.loop-number.number no_edge c.loop-number-test.true true (is_last-yes (get_or es c.loop-number.number no_edge) w.in-Output.field-0 w.in-Output.is) c.loop-number.numbers.items c.match-edge.numbers.items
          c.loop-number.invariant (ap (λ v. v.items) w.numbers-is ∙ w.in_ok-push-in-Output.ensures.items)
      | in-Split w ↦
          one_more edges es same c.loop-number.number no_edge c.loop-number-test.true false (is_last-no (get_or es c.loop-number.number no_edge) w.in-Split.field-0 w.in-Split.is) c.loop-number.numbers.items c.match-edge.numbers.items
          c.loop-number.invariant (ap (λ v. v.items) w.numbers-is ∙ sym (append-nil c.loop-number.numbers.items))
    ]
