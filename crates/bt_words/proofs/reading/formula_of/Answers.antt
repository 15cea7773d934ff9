use Rattle.bt_words.proofs.OneCommand.{none_formula}
use Rattle.bt_words.proofs.reading.formula_of.Goals as goal

pub returns-in_err-grid : goal.returns-in_err-grid
returns-in_err-grid c = rw c.from_residual.ensures (none_formula c.args.given c.in_default.ensures c.in_err-grid.ensures)
