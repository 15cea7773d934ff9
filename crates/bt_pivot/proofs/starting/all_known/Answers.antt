use Rattle.std.proofs.Common.{◌<◌, get_or, below_more, subst, arith, length, ◌∙◌}
use Rattle.std.proofs.lemmas.List.{get_or_default}
use Rattle.bt_frac.specs.Rows.{RowParts, IsRow}
use Rattle.bt_pivot.proofs.starting.all_known.Goals as goal

pub loop-row-preserved : goal.loop-row-preserved
loop-row-preserved c k d h =
    let inside : c.loop-row.row-index < length c.args.rows.now = omega arith in
    below_more (λ j. (e : RowParts) → IsRow (get_or c.args.rows.now j e)) c.loop-row.row-index (λ j l e. c.loop-row.invariant j e l)
    (λ e. subst IsRow (c.row-item.is ∙ get_or_default c.args.rows.now c.loop-row.row-index _ e inside) c.bound.ensures.known) k h d
