use Rattle.std.proofs.Common.{◌<◌, List, length, map, sym, subst, ap, ◌∙◌, IfOk, Ok, Err, ℕ}
use Rattle.std.specs.List.{All}
use Rattle.bt_frac.specs.Ratio.{Ratio}
use Rattle.bt_frac.specs.Rows.{RowParts}
use Rattle.bt_farkas.specs.Farkas.{IsFirstWide, IsFarkas}
use Rattle.bt_farkas.specs.WeightedRows.{weighted}
use Rattle.bt_simplex.specs.Weights.{weighted_rows}
use Rattle.bt_pivot.specs.Tableaus.{with_slots}
use Rattle.bt_simplex.specs.inner.Lemmas.{AreLineWeights}
use Rattle.bt_simplex.specs.inner.Sums.{IsUnfitSum}
use Rattle.bt_simplex.proofs.Refutations.{rows_within, picks_within, refutes}
use Rattle.bt_simplex.proofs.WideSums.{sum_is_cause}
use Rattle.bt_simplex.proofs.lemmas.lemma.Goals as goal

pub weighed-requires-clause-picks : goal.weighed-requires-clause-picks
weighed-requires-clause-picks c =
    subst (λ rows. All (λ pick. pick < length rows) c.deref-2.result.now) (sym c.rows.ensures)
    (subst (λ picks. All (λ pick. pick < length c.args.tableau.now.rows) picks) (sym (c.deref-2.ensures.value ∙ c.in_ok-picks.ensures.picks ∙ ap (λ ws. map (λ (w : ℕ × Ratio). w.0) ws) c.deref.ensures.value))
    (picks_within (with_slots c.args.tableau.now c.args.basis.now) c.args.position c.in-Ok.weights.items c.requires.tableau c.requires.stuck (subst (λ o. IfOk o (λ v. AreLineWeights (with_slots c.args.tableau.now c.args.basis.now) c.args.position v.items)) c.in-Ok.is c.in_ok-weights.ensures.weights)))

pub returns-in-Ok-2-clause-weights : goal.returns-in-Ok-2-clause-weights
returns-in-Ok-2-clause-weights c =
    let told = subst (λ r. IsFarkas (weighted c.rows.result.now c.deref-2.result.now c.deref-3.result.now) r) c.in-Ok-2.is c.in_ok-weighed.ensures in
    let told' = subst (λ rows. IsFarkas (weighted rows c.deref-2.result.now c.deref-3.result.now) (Ok c.in-Ok-2.field-0)) c.rows.ensures told in
    let told'' = subst (λ picks. IsFarkas (weighted c.args.tableau.now.rows picks c.deref-3.result.now) (Ok c.in-Ok-2.field-0)) (c.deref-2.ensures.value ∙ c.in_ok-picks.ensures.picks ∙ ap (λ ws. map (λ (w : ℕ × Ratio). w.0) ws) c.deref.ensures.value) told' in
    refutes (with_slots c.args.tableau.now c.args.basis.now) c.args.position c.in-Ok.weights.items c.in-Ok-2.field-0 c.requires.tableau c.requires.stuck (subst (λ o. IfOk o (λ v. AreLineWeights (with_slots c.args.tableau.now c.args.basis.now) c.args.position v.items)) c.in-Ok.is c.in_ok-weights.ensures.weights)
    (subst (λ numbers. IsFarkas (weighted c.args.tableau.now.rows (map (λ (w : ℕ × Ratio). w.0) c.in-Ok.weights.items) numbers) (Ok c.in-Ok-2.field-0)) (c.deref-3.ensures.value ∙ c.in_ok-picks.ensures.numbers ∙ ap (λ ws. map (λ (w : ℕ × Ratio). w.1) ws) c.deref.ensures.value) told'')

pub sum_cause-requires-clause-rows : goal.sum_cause-requires-clause-rows
sum_cause-requires-clause-rows c =
    let are = subst (λ o. IfOk o (λ v. AreLineWeights (with_slots c.args.tableau.now c.args.basis.now) c.args.position v.items)) c.in-Ok.is c.in_ok-weights.ensures.weights in
    subst (λ (rows : List RowParts). All (λ (w : ℕ × Ratio). w.0 < length rows) c.deref-in-Err-2.result.now) (sym c.rows-in-Err-2.ensures)
    (subst (λ ws. All (λ (w : ℕ × Ratio). w.0 < length c.args.tableau.now.rows) ws) (sym c.deref-in-Err-2.ensures.value)
    (rows_within (with_slots c.args.tableau.now c.args.basis.now) c.args.position c.in-Ok.weights.items c.requires.tableau c.requires.stuck are))

pub sum_cause-requires-clause-first : goal.sum_cause-requires-clause-first
sum_cause-requires-clause-first c =
    let told = subst (λ r. IsFarkas (weighted c.rows.result.now c.deref-2.result.now c.deref-3.result.now) r) c.in-Err-2.is c.in_ok-weighed.ensures in
    let told' = subst (λ rows. IsFarkas (weighted rows c.deref-2.result.now c.deref-3.result.now) (Err c.in-Err-2.at)) c.rows.ensures told in
    let told'' = subst (λ picks. IsFarkas (weighted c.args.tableau.now.rows picks c.deref-3.result.now) (Err c.in-Err-2.at)) (c.deref-2.ensures.value ∙ c.in_ok-picks.ensures.picks ∙ ap (λ ws. map (λ (w : ℕ × Ratio). w.0) ws) c.deref.ensures.value) told' in
    let first = (subst (λ numbers. IsFarkas (weighted c.args.tableau.now.rows (map (λ (w : ℕ × Ratio). w.0) c.in-Ok.weights.items) numbers) (Err c.in-Err-2.at))
    (c.deref-3.ensures.value ∙ c.in_ok-picks.ensures.numbers ∙ ap (λ ws. map (λ (w : ℕ × Ratio). w.1) ws) c.deref.ensures.value) told'').1 in
    subst (λ (rows : List RowParts). IsFirstWide (weighted_rows rows c.deref-in-Err-2.result.now) c.in-Err-2.at) (sym c.rows-in-Err-2.ensures)
    (subst (λ ws. IsFirstWide (weighted_rows c.args.tableau.now.rows ws) c.in-Err-2.at) (sym c.deref-in-Err-2.ensures.value) first)

pub returns-in-Err-2-clause-unfit : goal.returns-in-Err-2-clause-unfit
returns-in-Err-2-clause-unfit c =
    let are = subst (λ o. IfOk o (λ v. AreLineWeights (with_slots c.args.tableau.now c.args.basis.now) c.args.position v.items)) c.in-Ok.is c.in_ok-weights.ensures.weights in
    let told = subst (λ r. IsFarkas (weighted c.rows.result.now c.deref-2.result.now c.deref-3.result.now) r) c.in-Err-2.is c.in_ok-weighed.ensures in
    let told' = subst (λ rows. IsFarkas (weighted rows c.deref-2.result.now c.deref-3.result.now) (Err c.in-Err-2.at)) c.rows.ensures told in
    let told'' = subst (λ picks. IsFarkas (weighted c.args.tableau.now.rows picks c.deref-3.result.now) (Err c.in-Err-2.at)) (c.deref-2.ensures.value ∙ c.in_ok-picks.ensures.picks ∙ ap (λ ws. map (λ (w : ℕ × Ratio). w.0) ws) c.deref.ensures.value) told' in
    let first = (subst (λ numbers. IsFarkas (weighted c.args.tableau.now.rows (map (λ (w : ℕ × Ratio). w.0) c.in-Ok.weights.items) numbers) (Err c.in-Err-2.at))
    (c.deref-3.ensures.value ∙ c.in_ok-picks.ensures.numbers ∙ ap (λ ws. map (λ (w : ℕ × Ratio). w.1) ws) c.deref.ensures.value) told'').1 in
    let unfit = subst (λ (rows : List RowParts). IsUnfitSum (weighted_rows rows c.deref-in-Err-2.result.now) c.in-Err-2.at c.sum_cause.result) c.rows-in-Err-2.ensures c.sum_cause.ensures in
    let unfit' = subst (λ ws. IsUnfitSum (weighted_rows c.args.tableau.now.rows ws) c.in-Err-2.at c.sum_cause.result) c.deref-in-Err-2.ensures.value unfit in
    sum_is_cause (with_slots c.args.tableau.now c.args.basis.now) c.args.position c.in-Ok.weights.items c.in-Err-2.at c.sum_cause.result c.requires.tableau c.requires.stuck are first unfit'
