use Rattle.std.proofs.Common.{◌++◌, ◌-◌, ◌∷◌, [], map, take, drop, length, ap, sym, ◌∙◌, append-nil, inl, inr}
use Rattle.bt_flow_formula.specs.Columns.{plus, minus}
use Rattle.bt_arena.proofs.Loops.{mapped_more}
use Rattle.bt_flow_formula.proofs.Merges.{merge_end, rest_is}
use Rattle.bt_flow_formula.proofs.splitters.merge.Goals as goal
use Rattle.bt_flow_formula.proofs.splitters.merge.Goals.{then-loop-left-test+else-right-subtracted, else-loop-left-test}

pub loop-column-init : goal.loop-column-init
loop-column-init c = sym (append-nil c.loop-left.terms.items)

pub loop-column-preserved : goal.loop-column-preserved
loop-column-preserved c =
    mapped_more plus (take (length c.args.added.now - c.loop-left.left) (drop c.loop-left.left c.args.added.now)) c.loop-left.terms.items c.loop-column.terms.items
    c.push-in-loop-column.new.self.items c.loop-column.column-index 0 c.loop-column-test.true c.loop-column.invariant
    (c.in_ok-push-3.ensures.items ∙ ap (λ t. c.loop-column.terms.items ++ t ∷ []) c.plus-in-loop-column.ensures)

pub loop-column-2-init : goal.loop-column-2-init
loop-column-2-init c = sym (append-nil c.loop-column.terms.items)

pub loop-column-2-preserved : goal.loop-column-2-preserved
loop-column-2-preserved c =
    mapped_more minus (take (length c.args.subtracted.now - c.loop-left.right) (drop c.loop-left.right c.args.subtracted.now)) c.loop-column.terms.items c.loop-column-2.terms.items
    c.push-in-loop-column-2.new.self.items c.loop-column-2.column-index 0 c.loop-column-2-test.true c.loop-column-2.invariant
    (c.in_ok-push-4.ensures.items ∙ ap (λ t. c.loop-column-2.terms.items ++ t ∷ []) c.minus-in-loop-column-2.ensures)

pub returns : goal.returns
returns c =
    let xs = c.args.added.now in
    let ys = c.args.subtracted.now in
    merge_end xs ys c.loop-left.left c.loop-left.right c.loop-left.terms.items c.loop-column.terms.items c.loop-column-2.terms.items c.loop-left.invariant.2
    (elim c.loop-left-test.branch [
      | then-loop-left-test+else-right-subtracted w ↦ inr w.if-right-subtracted.false
      | else-loop-left-test w ↦ inl w.loop-left-test.false
    ])
    (c.loop-column.invariant ∙ ap (λ l. c.loop-left.terms.items ++ map plus l) (rest_is xs c.loop-left.left c.loop-column.column-index c.loop-column-test.false))
    (c.loop-column-2.invariant ∙ ap (λ l. c.loop-column.terms.items ++ map minus l) (rest_is ys c.loop-left.right c.loop-column-2.column-index c.loop-column-2-test.false))
