use Rattle.std.proofs.Common.{◌≡◌, ◌≤◌, None, ◌∷◌, arith, ◌∙◌, ap, map, sym, subst, []}
use Rattle.std.specs.List.{All}
use Rattle.bt_frac.specs.Ratio.{negated}
use Rattle.bt_farkas.specs.WeightedRows.{coefficient_at}
use Rattle.bt_linear_forms.specs.Lines.{one, IsCombination}
use Rattle.bt_pivot.specs.Tableaus.{with_slots}
use Rattle.bt_simplex.specs.inner.Lemmas.{weight_of}
use Rattle.bt_simplex.proofs.PointSteps.{point_cause}
use Rattle.bt_pivot.proofs.Resting.{bound_within}
use Rattle.bt_simplex.proofs.Refutations.{own_lacks, line_over, stands_told}
use Rattle.bt_simplex.proofs.lemmas.stuck_weights.Goals as goal

pub returns-in-Err-clause-unfit : goal.returns-in-Err-clause-unfit
returns-in-Err-clause-unfit c = point_cause (with_slots c.args.tableau.now c.args.basis.now) c.args.position c.in-Some.found c.in-Err.cause (sym c.in_ok-found.ensures ∙ c.in-Some.is) c.in-Err.ensures.unfit

pub difference-requires-clause-position : goal.difference-requires-clause-position
difference-requires-clause-position c =
    let within = bound_within (with_slots c.args.tableau.now c.args.basis.now) c.requires.tableau c.args.position c.in-Some-bound_row.row.now c.in-Some-bound_row.ensures in
    let many = c.len.ensures in
    omega arith

pub difference-requires-clause-lacks : goal.difference-requires-clause-lacks
difference-requires-clause-lacks c =
    subst (λ l. coefficient_at c.args.position l ≡ None) (sym (c.deref.ensures.value ∙ c.in_ok-terms.ensures.value))
    (own_lacks (with_slots c.args.tableau.now c.args.basis.now) c.args.position c.in-Some.found c.requires.tableau (sym c.in_ok-found.ensures ∙ c.in-Some.is))

pub returns-clause-weights : goal.returns-clause-weights
returns-clause-weights c =
    let slot = sym c.in_ok-found.ensures ∙ c.in-Some.is in
    let sum = subst (λ l. IsCombination ((c.args.position, negated one) ∷ []) one l c.in_ok-line.line) (c.deref.ensures.value ∙ c.in_ok-terms.ensures.value) c.in_ok-line.ensures.sum in
    record {
      terms = c.in-Some.found;
      slot = slot;
      above = c.is_above.result;
      is_above = stands_told (with_slots c.args.tableau.now c.args.basis.now) c.args.position c.in-Some.found c.in-Some-bound_row.row.now c.in-Ok.point c.is_above.result slot c.in-Some-bound_row.ensures c.in-Ok.ensures.point c.is_above.ensures;
      line = c.in_ok-line.line;
      is_line = c.in_ok-line.ensures.line;
      combination = sum;
      weights_are =
          c.in_ok-weights.ensures ∙ ap (λ n. map (weight_of n c.is_above.result) c.deref-2.result.now) c.columns.ensures
          ∙ ap (λ l. map (weight_of c.args.tableau.now.columns c.is_above.result) l) (c.deref-2.ensures.value ∙ c.in_ok-others.ensures.value);
    }

pub weights_of-requires : goal.weights_of-requires
weights_of-requires c =
    let slot = sym c.in_ok-found.ensures ∙ c.in-Some.is in
    let sum = subst (λ l. IsCombination ((c.args.position, negated one) ∷ []) one l c.in_ok-line.line) (c.deref.ensures.value ∙ c.in_ok-terms.ensures.value) c.in_ok-line.ensures.sum in
    subst (λ n. All (λ u. n ≤ u.0) c.deref-2.result.now) (sym c.columns.ensures)
    (subst (λ l. All (λ u. c.args.tableau.now.columns ≤ u.0) l) (sym (c.deref-2.ensures.value ∙ c.in_ok-others.ensures.value))
    (line_over (with_slots c.args.tableau.now c.args.basis.now) c.args.position c.in-Some.found c.in_ok-line.line c.is_above.result c.requires.tableau c.requires.stuck slot c.in_ok-line.ensures.line
    sum (stands_told (with_slots c.args.tableau.now c.args.basis.now) c.args.position c.in-Some.found c.in-Some-bound_row.row.now c.in-Ok.point c.is_above.result slot c.in-Some-bound_row.ensures c.in-Ok.ensures.point c.is_above.ensures)))
