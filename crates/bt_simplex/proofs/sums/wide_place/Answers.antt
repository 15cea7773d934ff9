use Rattle.std.proofs.Common.{◌<◌, ◌∙◌, arith, length, sym, subst, ℕ}
use Rattle.bt_frac.specs.Ratio.{Ratio}
use Rattle.bt_simplex.specs.Weights.{weighted_rows}
use Rattle.bt_simplex.proofs.WideSums.{row_inside, weighted_here, wide_column, wide_bound}
use Rattle.bt_simplex.proofs.sums.wide_place.Goals as goal

pub offset_bounds-weights-at : goal.offset_bounds-weights-at
offset_bounds-weights-at c = let h = row_inside c.args.rows.now c.args.weights.now c.args.at c.requires.first in omega (arith, h)

pub bounds-weights-at : goal.bounds-weights-at
bounds-weights-at c = row_inside c.args.rows.now c.args.weights.now c.args.at c.requires.first

pub offset_bounds-rows-row : goal.offset_bounds-rows-row
offset_bounds-rows-row c =
    let inside = row_inside c.args.rows.now c.args.weights.now c.args.at c.requires.first in
    let low : c.index-weights-at.result.0 < length c.args.rows.now =
    subst (λ (y : ℕ × Ratio). y.0 < length c.args.rows.now) (sym c.index-weights-at.is) (c.requires.rows c.args.at.row c.index-weights-at.result inside) in
    omega (arith, low)

pub bounds-rows-row : goal.bounds-rows-row
bounds-rows-row c =
    let inside = row_inside c.args.rows.now c.args.weights.now c.args.at c.requires.first in
    let low : c.index-weights-at.result.0 < length c.args.rows.now =
    subst (λ (y : ℕ × Ratio). y.0 < length c.args.rows.now) (sym c.index-weights-at.is) (c.requires.rows c.args.at.row c.index-weights-at.result inside) in
    low

pub returns-in-Some-clause-wide : goal.returns-in-Some-clause-wide
returns-in-Some-clause-wide c =
    let rows = c.args.rows.now in
    let weights = c.args.weights.now in
    let inside = row_inside rows weights c.args.at c.requires.first in
    let here = weighted_here rows weights c.args.at.row c.index-weights-at.result c.index-rows-row.result c.requires.rows inside c.index-weights-at.is c.index-rows-row.is in
    wide_column (weighted_rows rows weights) c.args.at (c.index-rows-row.result, c.index-weights-at.result.1) c.in-Some.field-0 c.requires.first here (sym c.part.ensures ∙ c.in-Some.is)

pub returns-in-None-clause-wide : goal.returns-in-None-clause-wide
returns-in-None-clause-wide c =
    let rows = c.args.rows.now in
    let weights = c.args.weights.now in
    let inside = row_inside rows weights c.args.at c.requires.first in
    let here = weighted_here rows weights c.args.at.row c.index-weights-at.result c.index-rows-row.result c.requires.rows inside c.index-weights-at.is c.index-rows-row.is in
    (wide_bound (weighted_rows rows weights) c.args.at (c.index-rows-row.result, c.index-weights-at.result.1) c.requires.first here (sym c.part.ensures ∙ c.in-None.is)).0

pub returns-in-None-clause-column : goal.returns-in-None-clause-column
returns-in-None-clause-column c =
    let rows = c.args.rows.now in
    let weights = c.args.weights.now in
    let inside = row_inside rows weights c.args.at c.requires.first in
    let here = weighted_here rows weights c.args.at.row c.index-weights-at.result c.index-rows-row.result c.requires.rows inside c.index-weights-at.is c.index-rows-row.is in
    (wide_bound (weighted_rows rows weights) c.args.at (c.index-rows-row.result, c.index-weights-at.result.1) c.requires.first here (sym c.part.ensures ∙ c.in-None.is)).1
