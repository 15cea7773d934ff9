-- What stands in a formula before the definitions that extend it.
use Rattle.std.specs.Prelude.{◌≡◌, ◌≤◌, length, take}
use Rattle.bt_cnf.specs.Formulas.{FormulaParts, IsFormula}
use Rattle.bt_theory.specs.Reaching.{atom_vars, columns_of}
use Rattle.bt_theory.specs.declared.base.Base.{Base}

-- the variables, clauses and atoms that stand in front
abbrev pub base_in : Base → FormulaParts → FormulaParts
base_in b g = record { vars = b.vars; clauses = take b.clauses g.clauses; atoms = take (length b.atoms.items) g.atoms }

-- so much stands in front, and is a formula
pub record IsBase (b : Base) (g : FormulaParts) : Type 0 where
  pub known : IsFormula (base_in b g)
  pub atoms : b.atoms.items ≡ atom_vars (base_in b g)
  pub columns : b.columns ≡ columns_of (base_in b g)
  pub vars : b.vars ≤ g.vars
  pub clauses : b.clauses ≤ length g.clauses
  pub rows : length b.atoms.items ≤ length g.atoms

-- it is all of the formula
pub record IsWhole (f : FormulaParts) (b : Base) : Type 0 where
  pub known : IsFormula f
  pub vars : b.vars ≡ f.vars
  pub clauses : b.clauses ≡ length f.clauses
  pub columns : b.columns ≡ columns_of f
  pub atoms : b.atoms.items ≡ atom_vars f
