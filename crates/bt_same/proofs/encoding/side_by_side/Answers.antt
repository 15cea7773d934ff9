use Rattle.std.proofs.Common.{◌≡◌, ℕ, ◌+◌, List, [], length, map, ap, ◌∙◌}
use Rattle.bt_net.specs.declared.network.Edge.{Edge}
use Rattle.bt_cnf.specs.Formulas.{FormulaParts}
use Rattle.bt_flow_formula.specs.FlowFormula.{steady_formula}
use Rattle.bt_same.specs.declared.shift.Shift.{Shift}
use Rattle.bt_same.specs.SameFormula.{first_shift, second_columns, second_vars, moved_lits, moved_row}
use Rattle.bt_same.specs.inner.Joining.{rows_of, with_rows, with_lits}
use Rattle.bt_same.proofs.Joined.{side_by_side}
use Rattle.bt_same.proofs.encoding.side_by_side.Goals as goal

rows_put : (f new g h : FormulaParts) (found shift : Shift) → new ≡ with_rows f (map (moved_row found) (rows_of g)) → found ≡ shift → g ≡ h → new ≡ with_rows f (map (moved_row shift) (rows_of h))
rows_put f new g h found shift is e p = is ∙ ap (λ s. with_rows f (map (moved_row s) (rows_of g))) e ∙ ap (λ q. with_rows f (map (moved_row shift) (rows_of q))) p

lits_put : (f new g h : FormulaParts) (found shift : Shift) → new ≡ with_lits f (map (moved_lits found) g.clauses) → found ≡ shift → g ≡ h → new ≡ with_lits f (map (moved_lits shift) h.clauses)
lits_put f new g h found shift is e p =
    is ∙ ap (λ s. with_lits f (map (moved_lits s) g.clauses)) e ∙ ap {A = FormulaParts} {B = FormulaParts} (λ q. with_lits f (map (moved_lits shift) q.clauses)) p

pub returns : goal.returns
returns c =
    let a = c.args.first.now in
    let b = c.args.second.now in
    let k : c.vars.result ≡ (steady_formula a).vars = c.vars.ensures.value ∙ ap {A = FormulaParts} {B = ℕ} (λ f. f.vars) c.requires.first in
    let vars = ap {A = Shift} {B = Shift} (λ s. record s { far = c.vars.result }) c.of_second-second_columns.ensures ∙ ap {A = ℕ} {B = Shift} (λ n. record (second_columns a b) { far = n }) k in
    let start = c.in_ok-formula.ensures ∙ ap {A = List Edge} {B = FormulaParts} (λ l. record { vars = length l + length c.edges-2.result.now; clauses = []; atoms = [] }) c.edges.ensures.edges
    ∙ ap {A = List Edge} {B = FormulaParts} (λ l. record { vars = length a.edges + length l; clauses = []; atoms = [] }) c.edges-2.ensures.edges in
    side_by_side a b c.in_ok-formula.formula c.add_rows.new.formula c.add_rows-2.new.formula c.add_clauses.new.formula c.add_clauses-2.new.formula start
    (rows_put c.in_ok-formula.formula c.add_rows.new.formula c.args.of_first.now (steady_formula a) _ (first_shift a b) c.in_ok-add_rows.ensures c.of_first-first_shift.ensures c.requires.first)
    (rows_put c.add_rows.new.formula c.add_rows-2.new.formula c.args.of_second.now (steady_formula b) _ (second_columns a b) c.in_ok-add_rows-2.ensures c.of_second-second_columns.ensures c.requires.second)
    (lits_put c.add_rows-2.new.formula c.add_clauses.new.formula c.args.of_first.now (steady_formula a) _ (first_shift a b) c.in_ok-add_clauses.ensures c.of_first-first_shift.ensures c.requires.first)
    (lits_put c.add_clauses.new.formula c.add_clauses-2.new.formula c.args.of_second.now (steady_formula b) _ (second_vars a b) c.in_ok-add_clauses-2.ensures vars c.requires.second)
