use Rattle.bt_words.proofs.OneCommand.{none_lays}
use Rattle.bt_words.proofs.reading.laid.Goals as goal

pub returns-in_err-grid : goal.returns-in_err-grid
returns-in_err-grid c = rw c.from_residual.ensures (none_lays c.args.given c.in_err-grid.ensures)
