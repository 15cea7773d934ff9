use Rattle.std.proofs.Common.{ℕ, List, ◌∷◌, [], map, ◌∙◌, ap, refl}
use Rattle.std.specs.List.{range_with_len}
use Rattle.bt_frac.specs.Rows.{RowParts}
use Rattle.bt_cnf.specs.Formulas.{FormulaParts}
use Rattle.bt_flow_formula.specs.declared.state_literal.StateLiteral.{StateLiteral}
use Rattle.bt_flow_formula.specs.declared.state_literal.StateLiteral.TheVariants.{Says}
use Rattle.bt_flow.specs.EndEdges.{load_column, cap_at, input_edge}
use Rattle.bt_flow_formula.specs.Columns.{at_least}
use Rattle.bt_flow_formula.specs.inner.Adding.{with_clauses}
use Rattle.bt_arena.proofs.Loops.{item_more}
use Rattle.bt_flow_formula.specs.inner.Variables.{at_in}
use Rattle.bt_flow_formula.proofs.Numbers.{with_none, added_more}
use Rattle.bt_flow_formula.proofs.properties.add_loaded.Goals as goal

pub loop-input-init : goal.loop-input-init
loop-input-init c = with_none (at_in c.args.pairs.now) c.args.formula.now

pub loop-input-preserved : goal.loop-input-preserved
loop-input-preserved c =
    let n = c.args.net.now in
    let k = c.loop-input.input in
    let f : ℕ → List StateLiteral = λ i. Says (at_least (load_column n i) (cap_at n (input_edge n i))) ∷ [] in
    let cap = c.cap_at-cap.ensures ∙ ap (cap_at n) c.input_edge.ensures.edge in
    let row = c.in_ok-full.ensures ∙ ap (λ x. at_least x c.cap_at-cap.result) c.load_column.ensures.column ∙ ap (at_least (load_column n k)) cap in
    added_more (at_in c.args.pairs.now) c.args.formula.now c.loop-input.formula c.add_row.new.formula _ _ _ c.loop-input.invariant
    (c.in_ok-add_row.ensures ∙ ap {A = RowParts} {B = FormulaParts} (λ r. with_clauses (at_in c.args.pairs.now) c.loop-input.formula ((Says r ∷ []) ∷ [])) row)
    (item_more f [] (map f (range_with_len 0 k)) _ k refl refl)
