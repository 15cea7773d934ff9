use Rattle.bt_flow.proofs.Decided as decided
use Rattle.bt_flow.proofs.theorems.holds_exactly.Goals as goal

pub returns : goal.returns
returns c = decided.holds_exactly
