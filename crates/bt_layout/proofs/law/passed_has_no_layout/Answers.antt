use Rattle.bt_layout.proofs.Passed as proved
use Rattle.bt_layout.proofs.law.passed_has_no_layout.Goals as goal

pub returns : goal.returns
returns c = proved.passed_has_no_layout
