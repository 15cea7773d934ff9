use Rattle.bt_text.proofs.WholeLines.{no_lines, lines_to}
use Rattle.bt_text.proofs.whole.whole_lines.Goals as goal

pub returns-in-Some : goal.returns-in-Some
returns-in-Some c = lines_to c.args.text.now c.in-Some.at c.in-Some.ensures.0.high c.in-Some.ensures.1 c.in-Some.ensures.0.after

pub returns-in-None : goal.returns-in-None
returns-in-None c = no_lines c.args.text.now c.in-None.ensures
