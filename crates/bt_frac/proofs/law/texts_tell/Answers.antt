use Rattle.bt_frac.proofs.Words.{frac_text_same}
use Rattle.bt_frac.proofs.law.texts_tell.Goals as goal

pub returns : goal.returns
returns c = frac_text_same
