use Rattle.std.proofs.Common.{◌∷◌, [], ◌++◌, ap, ◌∙◌}
use Rattle.bt_arena.proofs.Loops.{item_more}
use Rattle.bt_frac.specs.Values.{value_in}
use Rattle.bt_same.specs.SameFormula.{shifted}
use Rattle.bt_same.proofs.solution.part_values.Goals as goal

pub loop-column-preserved : goal.loop-column-preserved
loop-column-preserved c =
    let v = value_in c.args.values.now in
    let old = c.loop-column.found.items in
    item_more (λ k. v (shifted c.args.columns k)) [] old c.push.new.self.items c.loop-column.column c.loop-column.invariant
    (c.in_ok-push.ensures.items ∙ ap (λ a. old ++ a ∷ []) (c.value_of.ensures ∙ ap v c.in_ok-put.ensures))
