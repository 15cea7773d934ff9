use Rattle.bt_layout.proofs.Told.{told_laid, told_spent}
use Rattle.bt_layout.proofs.early.told.Goals as goal

pub returns-in-Some : goal.returns-in-Some
returns-in-Some c = λ requests learnt is passed. told_laid requests learnt c.args.progress _ c.in-Some.is is

pub returns-in-None : goal.returns-in-None
returns-in-None c = λ requests learnt is passed. told_spent requests learnt c.args.progress c.in-None.is is passed
