use Rattle.bt_designs.proofs.LongerDesigns.{design_stays, refusal_stays}
use Rattle.bt_top.proofs.law.longer_is_read.Goals as goal

pub returns-clause-design : goal.returns-clause-design
returns-clause-design c = design_stays

pub returns-clause-refused : goal.returns-clause-refused
returns-clause-refused c = refusal_stays
