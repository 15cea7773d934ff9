use Rattle.bt_extend.proofs.Conservative.{meeting_goes_on}
use Rattle.bt_extend.proofs.law.meeting_goes_on.Goals as goal

pub returns : goal.returns
returns c = meeting_goes_on
