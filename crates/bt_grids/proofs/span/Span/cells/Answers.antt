use Rattle.std.proofs.Common.{arith}
use Rattle.std.proofs.lemmas.Int.{ints}
use Rattle.bt_grids.proofs.Spanning.{least_holding}
use Rattle.bt_grids.proofs.span.Span.cells.Goals as goal

pub returns : goal.returns
returns c = λ parts within encloses.
    least_holding parts c.args.self c.from-across.result c.from-down.result c.saturating_mul.result _
    (omega (arith, ints, c.from-across.ensures, c.abs_diff.ensures)) (omega (arith, ints, c.from-down.ensures, c.abs_diff-2.ensures))
    c.saturating_mul.ensures (omega arith) c.requires.least c.requires.greatest within encloses
