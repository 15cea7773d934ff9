use Rattle.bt_layout.proofs.Written as proved
use Rattle.bt_layout.proofs.law.laid_is_read_back.Goals as goal

pub returns : goal.returns
returns c = proved.laid_is_read_back
