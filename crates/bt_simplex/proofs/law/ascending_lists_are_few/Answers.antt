use Rattle.bt_simplex.proofs.Counting
use Rattle.bt_simplex.proofs.law.ascending_lists_are_few.Goals as goal

pub returns : goal.returns
returns c = Counting.ascending_lists_are_few
