use Rattle.std.proofs.Common.{subst, sym, arith}
use Rattle.std.proofs.lemmas.Int.{ints, clamps}
use Rattle.bt_parts.specs.Cells.{IsInside}
use Rattle.bt_grids.specs.inner.Spans.{IsNear}
use Rattle.bt_grids.proofs.Spanning.{encloses_more, first_inside, last_inside, least_inside, greatest_inside, near_last, from}
use Rattle.bt_grids.proofs.span.with_part.Goals as goal

pub returns-clause-least : goal.returns-clause-least
returns-clause-least c =
    let cells = c.cells_of-second in
    let near = (near_last c.args.part.now cells.result.0 cells.result.1 cells.ensures.first cells.ensures.second c.requires.part).0 in
    let was = c.requires.least in
    (omega (arith, ints, clamps, c.min.ensures.value, near.0, was.0), omega (arith, ints, clamps, c.min-2.ensures.value, near.1, was.1))

pub returns-clause-greatest : goal.returns-clause-greatest
returns-clause-greatest c =
    let cells = c.cells_of-second in
    let near = subst IsNear (sym c.unwrap_or-last.ensures) (near_last c.args.part.now cells.result.0 cells.result.1 cells.ensures.first cells.ensures.second c.requires.part).1 in
    let was = c.requires.greatest in
    (omega (arith, ints, clamps, c.max.ensures.value, near.0, was.0), omega (arith, ints, clamps, c.max-2.ensures.value, near.1, was.1))

pub returns-clause-within : goal.returns-clause-within
returns-clause-within c = λ parts span has corner rect holds.
    let part = c.args.part.now in
    let cells = c.cells_of-second in
    let first = first_inside corner rect parts part holds has cells.result.0 cells.ensures.first in
    let last = subst (λ cell. IsInside rect (from corner cell)) (sym c.unwrap_or-last.ensures)
    (last_inside corner rect parts part holds has cells.result.0 cells.result.1 cells.ensures.first cells.ensures.second) in
    let both = span corner rect holds in (
      least_inside corner rect c.args.span.least cells.result.0 _ (omega (arith, ints, clamps, c.min.ensures.value)) (omega (arith, ints, clamps, c.min-2.ensures.value)) both.0 first,
      greatest_inside corner rect c.args.span.greatest c.unwrap_or-last.result _ (omega (arith, ints, clamps, c.max.ensures.value)) (omega (arith, ints, clamps, c.max-2.ensures.value)) both.1 last,
    )

pub returns-clause-encloses : goal.returns-clause-encloses
returns-clause-encloses c = λ seen was.
    let cells = c.cells_of-second in
    encloses_more c.args.span _ seen c.args.part.now cells.result.0 c.unwrap_or-last.result cells.result.1 cells.ensures.first cells.ensures.second c.unwrap_or-last.ensures
    (omega (arith, ints, clamps, c.min.ensures.value)) (omega (arith, ints, clamps, c.min-2.ensures.value))
    (omega (arith, ints, clamps, c.max.ensures.value)) (omega (arith, ints, clamps, c.max-2.ensures.value)) was
