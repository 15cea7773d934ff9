use Rattle.bt_words.proofs.OneCommand.{none_builds}
use Rattle.bt_words.proofs.reading.built.Goals as goal

pub returns-in_err-counted : goal.returns-in_err-counted
returns-in_err-counted c = rw c.from_residual.ensures (none_builds c.args.given c.in_err-counted.ensures)
