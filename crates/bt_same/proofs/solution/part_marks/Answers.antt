use Rattle.std.proofs.Common.{◌∷◌, [], ◌++◌, ap, ◌∙◌}
use Rattle.bt_arena.proofs.Loops.{item_more}
use Rattle.bt_cnf.specs.Assignments.{truth_in}
use Rattle.bt_same.specs.SameFormula.{shifted}
use Rattle.bt_same.proofs.solution.part_marks.Goals as goal

pub loop-edge-preserved : goal.loop-edge-preserved
loop-edge-preserved c =
    let f = truth_in c.args.assignment.now in
    let old = c.loop-edge.marks.items in
    item_more (λ k. f (shifted c.args.vars k)) [] old c.push.new.self.items c.loop-edge.edge c.loop-edge.invariant
    (c.in_ok-push.ensures.items ∙ ap (λ a. old ++ a ∷ []) (c.is_true.ensures ∙ ap f c.in_ok-put.ensures))
