use Rattle.bt_top.proofs.Ended.{to_words}
use Rattle.bt_top.proofs.Grids.{has_grid}
use Rattle.bt_top.proofs.program.answer_to.Goals as goal

pub answer_of-requires : goal.answer_of-requires
answer_of-requires g c = has_grid _ _ c.in-Some.ensures

pub returns-in-Some-clause-answer : goal.returns-in-Some-clause-answer
returns-in-Some-clause-answer g c = to_words _ _ _ _ c.in-Some.ensures c.answer_of.ensures.answer
