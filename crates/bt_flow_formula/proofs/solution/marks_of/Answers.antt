use Rattle.std.proofs.Common.{◌∷◌, [], ◌++◌, ◌+◌, ◌∙◌, ap, sym, arith, ◌≡◌}
use Rattle.std.proofs.lemmas.List.FromFn.{map-range_with_len_more}
use Rattle.bt_cnf.specs.Assignments.{truth_in}
use Rattle.bt_flow_formula.proofs.solution.marks_of.Goals as goal

pub loop-edge-preserved : goal.loop-edge-preserved
loop-edge-preserved c =
    let f = truth_in c.args.assignment.now in
    c.in_ok-push.ensures.items ∙ ap (λ a. c.loop-edge.marks.items ++ a ∷ []) c.is_true.ensures
    ∙ ap (λ l. l ++ f c.loop-edge.edge ∷ []) c.loop-edge.invariant
    ∙ sym (map-range_with_len_more f 0 c.loop-edge.edge c.loop-edge.edge (let z : 0 + c.loop-edge.edge ≡ c.loop-edge.edge = omega arith in z))
