use Rattle.bt_top.proofs.Budgets as budget
use Rattle.bt_top.proofs.law.ample_pivots_are_never_made.Goals as goal

pub returns-clause-answers : goal.returns-clause-answers
returns-clause-answers c = budget.ample_pivots_are_never_made

pub returns-clause-endings : goal.returns-clause-endings
returns-clause-endings c = budget.ample_pivots_never_end_made
