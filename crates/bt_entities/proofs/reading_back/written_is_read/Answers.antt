use Rattle.bt_entities.proofs.ReadBack.{written_read}
use Rattle.bt_entities.proofs.reading_back.written_is_read.Goals as goal

pub returns : goal.returns
returns c = written_read
