use Rattle.std.proofs.Common.{◌≡◌, ℕ, ◌+◌, List, [], ◌∷◌, length, ap, ◌∙◌}
use Rattle.bt_net.specs.declared.network.Edge.{Edge}
use Rattle.bt_net.specs.Network.{Network}
use Rattle.bt_cnf.specs.Formulas.{FormulaParts}
use Rattle.bt_flow.specs.EndEdges.{output_edge}
use Rattle.bt_flow_formula.specs.Columns.{above}
use Rattle.bt_same.specs.inner.Joining.{with_rows}
use Rattle.bt_same.proofs.Joined.{differ_more}
use Rattle.bt_same.proofs.difference.difference_lits.Goals as goal

-- the edges of an output, as they are found
other_is : (a b : Network) (o y : ℕ) (edges : List Edge) → y ≡ output_edge b o → edges ≡ a.edges → y + length edges ≡ output_edge b o + length a.edges
other_is a b o y edges e h = ap (λ k. k + length edges) e ∙ ap (λ l. output_edge b o + length l) h

row_is : (a b : Network) (o : ℕ) (now new : FormulaParts) (x y : ℕ) → x ≡ output_edge a o → y ≡ output_edge b o + length a.edges → new ≡ with_rows now (above x y ∷ [])
    → new ≡ with_rows now (above (output_edge a o) (output_edge b o + length a.edges) ∷ [])
row_is a b o now new x y e h is = is ∙ ap (λ k. with_rows now (above k y ∷ [])) e ∙ ap (λ k. with_rows now (above (output_edge a o) k ∷ [])) h

row_back : (a b : Network) (o : ℕ) (now new : FormulaParts) (x y : ℕ) → x ≡ output_edge a o → y ≡ output_edge b o + length a.edges → new ≡ with_rows now (above y x ∷ [])
    → new ≡ with_rows now (above (output_edge b o + length a.edges) (output_edge a o) ∷ [])
row_back a b o now new x y e h is = is ∙ ap (λ k. with_rows now (above y k ∷ [])) e ∙ ap (λ k. with_rows now (above k (output_edge a o) ∷ [])) h

pub loop-output-preserved : goal.loop-output-preserved
loop-output-preserved c =
    let a = c.args.first.now in
    let b = c.args.second.now in
    differ_more (output_edge a) (λ o. output_edge b o + length a.edges) c.loop-output.output c.args.formula.now c.loop-output.formula c.add_above.new.formula c.add_above-in-loop-output.new.formula
    c.loop-output.lits.items c.push.new.self.items c.push-in-loop-output.new.self.items c.in_ok-add_above.field-0 c.in_ok-add_above-2.field-0 c.loop-output.invariant.0 c.loop-output.invariant.1
    (row_is a b c.loop-output.output c.loop-output.formula c.add_above.new.formula _ _ c.output_edge-one.ensures.edge (other_is a b c.loop-output.output _ _ c.output_edge.ensures.edge c.edges.ensures.edges) c.in_ok-add_above.ensures.row)
    c.in_ok-add_above.ensures.literal c.in_ok-push.ensures.items
    (row_back a b c.loop-output.output c.add_above.new.formula c.add_above-in-loop-output.new.formula _ _ c.output_edge-one.ensures.edge (other_is a b c.loop-output.output _ _ c.output_edge.ensures.edge c.edges.ensures.edges) c.in_ok-add_above-2.ensures.row)
    c.in_ok-add_above-2.ensures.literal c.in_ok-push-2.ensures.items
