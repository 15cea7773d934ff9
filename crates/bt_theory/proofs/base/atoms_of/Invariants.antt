use Rattle.bt_theory.specs.Reaching.{atom_vars}
use Rattle.bt_theory.proofs.Atoms.{IsSplitAt}
use Rattle.bt_theory.proofs.base.atoms_of.Given as goal

abbrev pub invariant-loop-place : goal.invariant-loop-place
invariant-loop-place l = IsSplitAt (atom_vars l.formula) l.atoms.items l.place l.formula.vars
