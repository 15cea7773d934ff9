use Rattle.bt_print.proofs.BuiltTexts.{built_read}
use Rattle.bt_print.proofs.law.built_is_read.Goals as goal

pub returns : goal.returns
returns c = built_read
