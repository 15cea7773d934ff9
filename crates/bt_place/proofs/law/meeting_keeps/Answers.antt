use Rattle.bt_place.proofs.Meeting as proved
use Rattle.bt_place.proofs.law.meeting_keeps.Goals as goal

pub returns : goal.returns
returns c = proved.meeting_keeps
