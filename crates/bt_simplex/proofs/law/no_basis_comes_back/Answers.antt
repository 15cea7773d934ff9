use Rattle.bt_simplex.proofs.Cycling
use Rattle.bt_simplex.proofs.law.no_basis_comes_back.Goals as goal

pub returns : goal.returns
returns c = Cycling.no_basis_comes_back
