use Rattle.bt_words.proofs.OneCommand.{none_searches}
use Rattle.bt_words.proofs.reading.smallest.Goals as goal

pub returns-in_err-most : goal.returns-in_err-most
returns-in_err-most c = rw c.from_residual.ensures (none_searches c.args.given c.in_default.ensures c.in_err-most.ensures)
