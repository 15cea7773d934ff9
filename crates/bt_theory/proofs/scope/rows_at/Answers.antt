use Rattle.std.proofs.Common.{◌++◌, ◌∷◌, [], get_or, ap, ◌∙◌}
use Rattle.bt_theory.proofs.Scoped.{atoms_more, row_again, one_picked, same_atoms}
use Rattle.bt_theory.proofs.scope.rows_at.Goals as goal
use Rattle.bt_theory.proofs.scope.rows_at.Goals.{in-Some+in_ok-push+in_ok-push-2, in_default}

pub loop-place-preserved : goal.loop-place-preserved
loop-place-preserved c =
    let f = c.args.formula.now in
    let vars = c.loop-place.vars.items in
    let rows = c.loop-place.rows.items in
    let place = get_or c.args.list.now c.loop-place.place-index 0 in
    let row = c.index-all-place.result in
    elim c.match-branch-2.branch [
      | in-Some+in_ok-push+in_ok-push-2 w ↦
          let var = w.index-atoms-place.result in
          let copy = w.in-Some.copy in
          let same = row_again row copy c.terms.result.now c.relation.result c.bound.result c.in_ok-copy.field-0 c.terms.ensures.value c.relation.ensures c.bound.ensures.value w.in-Some.is c.in_ok-copy.ensures in
          same_atoms f (vars ++ var ∷ []) c.match-branch-2.vars.items (rows ++ row ∷ []) c.match-branch-2.rows.items (ap (λ x. x.items) w.vars-is ∙ w.in_ok-push.ensures.items)
          (ap (λ x. x.items) w.rows-is ∙ w.in_ok-push-2.ensures.items ∙ ap (λ r. rows ++ r ∷ []) same)
          (atoms_more f vars rows var row c.loop-place.invariant
          (one_picked f c.rows-all.result.now c.args.atoms.now place row var c.rows-all.ensures.value c.requires.atoms (c.requires.rows c.loop-place.place-index 0 c.loop-place-test.true) c.index-all-place.is
          w.index-atoms-place.is))
      | in_default w ↦ same_atoms f vars c.match-branch-2.vars.items rows c.match-branch-2.rows.items (ap (λ x. x.items) w.vars-is) (ap (λ x. x.items) w.rows-is) c.loop-place.invariant
    ]
