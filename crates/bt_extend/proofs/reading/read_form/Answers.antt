use Rattle.bt_extend.proofs.FormTexts.{no_number_first}
use Rattle.bt_extend.proofs.reading.read_form.Goals as goal

pub returns-in-Some : goal.returns-in-Some
returns-in-Some c = c.read_behind.ensures c.args.text.now c.in-Some.ensures.some

pub returns-in-None : goal.returns-in-None
returns-in-None c = no_number_first c.args.text.now c.in-None.ensures.none
