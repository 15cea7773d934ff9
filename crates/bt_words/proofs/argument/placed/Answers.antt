use Rattle.bt_words.proofs.Placed.{no_placed}
use Rattle.bt_words.proofs.argument.placed.Goals as goal

pub returns-in_err-number : goal.returns-in_err-number
returns-in_err-number c = rw c.from_residual.ensures (no_placed c.args.word.now c.from.result c.from.ensures c.in_default.ensures c.in_err-number.ensures)
