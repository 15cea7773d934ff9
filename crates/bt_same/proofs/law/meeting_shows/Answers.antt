use Rattle.bt_same.proofs.Meeting as proved
use Rattle.bt_same.proofs.law.meeting_shows.Goals as goal

pub returns : goal.returns
returns c = proved.meeting_shows
