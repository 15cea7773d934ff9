use Rattle.bt_layout.proofs.Refuted
use Rattle.bt_layout.proofs.law.unmet_has_no_layout.Goals as goal

pub returns : goal.returns
returns c = Refuted.unmet_has_no_layout
