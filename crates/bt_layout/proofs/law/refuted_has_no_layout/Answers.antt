use Rattle.bt_layout.proofs.Refuted as proved
use Rattle.bt_layout.proofs.law.refuted_has_no_layout.Goals as goal

pub returns : goal.returns
returns c = proved.refuted_has_no_layout
