use Rattle.bt_gen.proofs.Lines.{one_place}
use Rattle.bt_gen.proofs.butterflies.one_splitter_has_a_line.Goals as goal

pub returns : goal.returns
returns c = one_place
