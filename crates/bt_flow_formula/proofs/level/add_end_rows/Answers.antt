use Rattle.std.proofs.Common.{ℕ, List, ◌∷◌, [], map, ◌∙◌, ap, refl}
use Rattle.std.specs.List.{range_with_len}
use Rattle.bt_frac.specs.Rows.{RowParts}
use Rattle.bt_cnf.specs.Formulas.{FormulaParts}
use Rattle.bt_flow_formula.specs.Levels.{level_row, with_rows}
use Rattle.bt_arena.proofs.Loops.{item_more}
use Rattle.bt_flow_formula.proofs.Adding.{no_rows, more_rows}
use Rattle.bt_flow_formula.proofs.level.add_end_rows.Goals as goal

pub loop-place-init : goal.loop-place-init
loop-place-init c = no_rows c.args.formula.now

pub loop-place-preserved : goal.loop-place-preserved
loop-place-preserved c =
    let old = c.args.formula.now in
    let k = c.loop-place.place in
    let f : ℕ → RowParts = level_row c.args.net.now c.args.end c.args.row in
    let row = ap {A = RowParts} {B = FormulaParts} (λ r. with_rows c.loop-place.formula (r ∷ [])) c.in_ok-made.ensures in
    more_rows old c.loop-place.formula c.add_atom.new.self (map f (range_with_len 0 k)) (f k ∷ []) c.loop-place.invariant (c.in_ok-add_atom.ensures.1 ∙ row)
    ∙ ap {A = List RowParts} {B = FormulaParts} (λ rows. with_rows old rows) (item_more f [] (map f (range_with_len 0 k)) _ k refl refl)
