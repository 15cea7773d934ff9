use Rattle.bt_words.proofs.Grids.{sides_are, no_grid}
use Rattle.bt_words.proofs.grid.grid_of.Goals as goal

pub returns-in_err-width : goal.returns-in_err-width
returns-in_err-width c = rw c.from_residual.ensures (no_grid c.args.word.now c.in_err-width.ensures.none)

pub returns-in_err-width-2 : goal.returns-in_err-width-2
returns-in_err-width-2 c =
    rw c.from_residual-in_err-width-2.ensures
    (λ grid is. c.in_err-width-2.ensures grid.width is.0.some_width is.0.few_across (sides_are grid c.args.word.now c.in_ok-width.width.now c.in_ok-width.height.now is c.in_ok-width.ensures.some).0)

pub returns-in_err-height : goal.returns-in_err-height
returns-in_err-height c =
    rw c.from_residual-in_err-height.ensures
    (λ grid is. c.in_err-height.ensures grid.height is.0.some_height is.0.few_down (sides_are grid c.args.word.now c.in_ok-width.width.now c.in_ok-width.height.now is c.in_ok-width.ensures.some).1)
