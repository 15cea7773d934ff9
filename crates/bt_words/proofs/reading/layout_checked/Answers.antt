use Rattle.bt_words.proofs.OneCommand.{none_checks_layouts}
use Rattle.bt_words.proofs.reading.layout_checked.Goals as goal

pub returns-in_err-grid : goal.returns-in_err-grid
returns-in_err-grid c = rw c.from_residual.ensures (none_checks_layouts c.args.given c.in_err-grid.ensures)
