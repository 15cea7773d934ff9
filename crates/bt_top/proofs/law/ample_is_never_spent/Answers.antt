use Rattle.bt_top.proofs.Budgets as budget
use Rattle.bt_top.proofs.law.ample_is_never_spent.Goals as goal

pub returns-clause-answers : goal.returns-clause-answers
returns-clause-answers c = budget.ample_is_never_spent

pub returns-clause-endings : goal.returns-clause-endings
returns-clause-endings c = budget.ample_never_ends_spent
