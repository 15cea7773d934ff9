use Rattle.bt_simplex.proofs.OneForm
use Rattle.bt_simplex.proofs.law.one_solved_form.Goals as goal

pub returns : goal.returns
returns c = OneForm.one_solved_form
