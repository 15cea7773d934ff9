use Rattle.std.proofs.Common.{◌<◌, ◌+◌, ◌∙◌, arith, length, take, sym, subst}
use Rattle.bt_frac.specs.Values.{nothing}
use Rattle.bt_farkas.specs.RunningSums.{RunsTo}
use Rattle.bt_farkas.specs.WeightedRows.{pairs_at}
use Rattle.bt_farkas.proofs.PlaceLemmas.{total_more, total_stays, unwide_by_run, row_within}
use Rattle.bt_simplex.specs.Weights.{weighted_rows}
use Rattle.bt_simplex.proofs.WideSums.{length_weighted, weighted_here, adds_product, sum_unfit}
use Rattle.bt_simplex.proofs.sums.cause_at.Goals as goal
use Rattle.bt_simplex.proofs.sums.cause_at.Goals.{in-Some+in-Ok, in_default}

pub returns-in-Err : goal.returns-in-Err
returns-in-Err c =
    let rows = c.args.rows.now in
    let weights = c.args.weights.now in
    let i = c.loop-row.row-index in
    let row = c.index-rows-row.result in
    let x = c.loop-row-item.result in
    let inside : i < length (weighted_rows rows weights) = omega (arith, length_weighted rows weights) in
    let here = weighted_here rows weights i x row c.requires.rows c.loop-row-test.true c.loop-row-item.is c.index-rows-row.is in
    sum_unfit (weighted_rows rows weights) c.args.at c.args.place i (row, x.1) c.in-Some.part c.loop-row.sum c.in-Err.unfit c.lemma_cause.result c.requires.wide inside here (sym c.part.ensures ∙ c.in-Some.is)
    c.added_part.ensures.known.0 c.loop-row.invariant c.in-Err.ensures.unfit c.lemma_cause.ensures

pub loop-row-preserved : goal.loop-row-preserved
loop-row-preserved c =
    let rows = c.args.rows.now in
    let weights = c.args.weights.now in
    let sum = weighted_rows rows weights in
    let place = c.args.place in
    let i = c.loop-row.row-index in
    let row = c.index-rows-row.result in
    let x = c.loop-row-item.result in
    let inside : i < length sum = omega (arith, length_weighted rows weights) in
    let here = weighted_here rows weights i x row c.requires.rows c.loop-row-test.true c.loop-row-item.is c.index-rows-row.is in
    elim c.match-part.branch [
      | in-Some+in-Ok w ↦
          subst (λ t. RunsTo nothing (pairs_at place (take (i + 1) sum)) t) (sym w.sum-is)
          (total_more place sum i (row, x.1) w.in-Some.part c.loop-row.sum w.in-Ok.next inside here (sym c.part.ensures ∙ w.in-Some.is) c.loop-row.invariant
          (adds_product c.loop-row.sum x.1 w.in-Some.part w.in-Ok.next w.added_part.ensures.known w.in-Ok.ensures.sum))
      | in_default w ↦
          subst (λ t. RunsTo nothing (pairs_at place (take (i + 1) sum)) t) (sym w.sum-is)
          (total_stays place sum i (row, x.1) c.loop-row.sum inside here (sym c.part.ensures ∙ w.in_default.is) c.loop-row.invariant)
    ]

pub unreachable-requires : goal.unreachable-requires
unreachable-requires c =
    let sum = weighted_rows c.args.rows.now c.args.weights.now in
    let size = length_weighted c.args.rows.now c.args.weights.now in
    let less = row_within sum c.args.place c.args.at.row c.requires.wide in
    unwide_by_run sum c.args.place c.loop-row.row-index c.args.at.row c.loop-row.sum c.loop-row.invariant (omega (arith, size, less)) c.requires.wide
