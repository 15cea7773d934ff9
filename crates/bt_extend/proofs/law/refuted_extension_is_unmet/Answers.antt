use Rattle.bt_extend.proofs.Conservative.{refuted_extension_is_unmet}
use Rattle.bt_extend.proofs.law.refuted_extension_is_unmet.Goals as goal

pub returns : goal.returns
returns c = refuted_extension_is_unmet
