use Rattle.std.proofs.Common.{◌≡◌, ◌≤◌, ◌+◌, ◌-◌, ◌∷◌, [], ◌++◌, ℕ, map, length, ◌∙◌, ap, sym, subst, arith, append_assoc}
use Rattle.std.specs.List.{range_with_len}
use Rattle.std.proofs.lemmas.List.{take_all, map_push}
use Rattle.bt_frac.specs.Rows.{HaveColumns}
use Rattle.bt_flow.specs.Ports.{numbers_where}
use Rattle.bt_flow.specs.Properties.{is_last}
use Rattle.bt_frac.specs.declared.relation.Relation.TheVariants.{Above}
use Rattle.bt_flow_formula.specs.Columns.{plus, minus}
use Rattle.bt_arena.proofs.Loops.{mapped_more, range_more}
use Rattle.bt_flow_formula.proofs.Columns.{output_columns}
use Rattle.bt_flow_formula.proofs.properties.above_outputs.Goals as goal

pub loop-edge-preserved : goal.loop-edge-preserved
loop-edge-preserved c =
    mapped_more minus c.deref-edge-items.result.now [] c.loop-edge.terms.items c.push.new.self.items c.loop-edge.edge-index 0 c.loop-edge-test.true c.loop-edge.invariant
    (c.in_ok-push.ensures.items ∙ ap (λ t. c.loop-edge.terms.items ++ t ∷ []) c.minus.ensures)

one_column : (first column : ℕ) → first ≤ column → range_with_len first (column + 1 - first) ≡ range_with_len first (column - first) ++ column ∷ []
one_column first column l =
    ap (range_with_len first) (let e : column + 1 - first ≡ column - first + 1 = omega (arith, l) in e) ∙ range_more first (column - first)
    ∙ ap (λ m. range_with_len first (column - first) ++ m ∷ []) (let e : first + (column - first) ≡ column = omega (arith, l) in e)

pub loop-column-preserved : goal.loop-column-preserved
loop-column-preserved c =
    let first = c.args.first in
    let column = c.loop-column.column in
    c.in_ok-push-2.ensures.items ∙ ap (λ t. c.loop-column.terms.items ++ t ∷ []) c.plus.ensures ∙ ap (λ l. l ++ plus column ∷ []) c.loop-column.invariant
    ∙ append_assoc c.loop-edge.terms.items (map plus (range_with_len first (column - first))) (plus column ∷ [])
    ∙ ap (λ l. c.loop-edge.terms.items ++ l) (sym (ap (map plus) (one_column first column c.loop-column.auto.column) ∙ map_push plus (range_with_len first (column - first)) column))

pub row_of_vec-requires : goal.row_of_vec-requires
row_of_vec-requires c =
    let n = c.args.net.now in
    let first = c.args.first in
    let numbers = c.deref-edge-items.ensures.value ∙ c.in_ok-edges.ensures in
    let edges = c.loop-edge.invariant ∙ ap (map minus) (take_all c.loop-edge.edge-index c.deref-edge-items.result.now c.loop-edge-test.false ∙ numbers) in
    let past = c.loop-column-test.false in
    let ends = c.loop-column.auto.column-end in
    let count : c.loop-column.column - first ≡ c.args.count = omega (arith, past, ends) in
    let terms = c.loop-column.invariant ∙ ap (λ l. l ++ map plus (range_with_len first (c.loop-column.column - first))) edges
    ∙ ap (λ m. map minus (numbers_where is_last 0 n.edges) ++ map plus (range_with_len first m)) count in
    let start : 0 + length n.edges ≤ first = let a = c.requires.first in omega (arith, a) in
    subst HaveColumns (sym terms) (output_columns is_last 0 n.edges first c.args.count start c.requires.last)

pub returns : goal.returns
returns c =
    let n = c.args.net.now in
    let first = c.args.first in
    let numbers = c.deref-edge-items.ensures.value ∙ c.in_ok-edges.ensures in
    let edges = c.loop-edge.invariant ∙ ap (map minus) (take_all c.loop-edge.edge-index c.deref-edge-items.result.now c.loop-edge-test.false ∙ numbers) in
    let past = c.loop-column-test.false in
    let ends = c.loop-column.auto.column-end in
    let count : c.loop-column.column - first ≡ c.args.count = omega (arith, past, ends) in
    let terms = c.loop-column.invariant ∙ ap (λ l. l ++ map plus (range_with_len first (c.loop-column.column - first))) edges
    ∙ ap (λ m. map minus (numbers_where is_last 0 n.edges) ++ map plus (range_with_len first m)) count in
    c.row_of_vec.ensures ∙ ap (λ t. record { terms = t; relation = Above; bound = c.whole.result }) terms
    ∙ ap (λ b. record { terms = map minus (numbers_where is_last 0 n.edges) ++ map plus (range_with_len first c.args.count); relation = Above; bound = b }) c.whole.ensures
