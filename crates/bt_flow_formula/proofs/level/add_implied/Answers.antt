use Rattle.std.proofs.Common.{ℕ, List, ◌+◌, ◌∷◌, [], map, ◌∙◌, ap, refl}
use Rattle.std.specs.List.{range_with_len}
use Rattle.bt_cnf.specs.declared.literal.Lit.{Lit}
use Rattle.bt_cnf.specs.Formulas.{FormulaParts}
use Rattle.bt_flow_formula.specs.Levels.{implies, with_more}
use Rattle.bt_arena.proofs.Loops.{item_more}
use Rattle.bt_flow_formula.proofs.Adding.{more_clauses}
use Rattle.bt_flow_formula.proofs.level.add_implied.Goals as goal

pub loop-place-preserved : goal.loop-place-preserved
loop-place-preserved c =
    let old = c.args.formula.now in
    let now = c.loop-place.formula in
    let k = c.loop-place.place in
    let f : ℕ → List Lit = λ j. implies (c.args.first + j) (c.args.first + c.args.count + j) in
    let below = ap {A = ℕ} {B = FormulaParts} (λ v. with_more now (implies v c.var_at-in-loop-place.result ∷ [])) c.var_at.ensures in
    let short = ap {A = ℕ} {B = FormulaParts} (λ v. with_more now (implies (c.args.first + k) v ∷ [])) c.var_at-in-loop-place.ensures in
    more_clauses old now c.add_clause.new.self (map f (range_with_len 0 k)) (f k ∷ []) c.loop-place.invariant (c.in_ok-add_clause.ensures.1 ∙ below ∙ short)
    ∙ ap {A = List (List Lit)} {B = FormulaParts} (λ l. with_more old l) (item_more f [] (map f (range_with_len 0 k)) _ k refl refl)
