use Rattle.std.proofs.Common.{sym, ◌∙◌, arith}
use Rattle.bt_frac.proofs.Numerals.{decimal_apart}
use Rattle.bt_words.proofs.grid.across.Goals as goal

pub returns-else-cells-ge1 : goal.returns-else-cells-ge1
returns-else-cells-ge1 c = λ n some few is.
    let same = decimal_apart n c.in_ok-cells.cells (omega (arith, few)) (omega (arith, c.in_ok-cells.ensures.0)) (sym is ∙ c.in_ok-cells.ensures.1) in
    omega arith
