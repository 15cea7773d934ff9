-- Formulas: clauses over variables, and atoms, which are variables that stand for rows.
use Rattle.std.specs.Prelude.{◌≡◌, ℕ, ◌+◌, ◌<◌, ◌≤◌, List, ◌∷◌, [], ◌++◌, length, map, Result, Ok, Err}
use Rattle.std.specs.List.{All}
use Rattle.std.specs.declared.alloc.AllocError.{AllocError}
use Rattle.bt_frac.specs.Rows.{RowParts, IsRow}
use Rattle.bt_cnf.specs.declared.literal.Lit.{Lit}

-- the number of variables, the clauses, and the atoms: variables, each with its row
pub record FormulaParts : Type 0 where
  pub vars : ℕ
  pub clauses : List (List Lit)
  pub atoms : List (ℕ × RowParts)

-- the variables of literals are below a number
abbrev pub LitsBelow : ℕ → List Lit → Type 0
LitsBelow vars lits = All (λ l. l.var < vars) lits

-- numbers ascend strictly from one that is at least this on, and are below an end
abbrev pub AscendBelow : ℕ → ℕ → List ℕ → Type 0
AscendBelow least end [] = Unit {0}
AscendBelow least end (n ∷ ns) = (least ≤ n) × (n < end) × AscendBelow (n + 1) end ns

-- each literal is of a variable, the atoms are variables in ascending order, and each has a row
pub record IsFormula (f : FormulaParts) : Type 0 where
  pub clauses : All (LitsBelow f.vars) f.clauses
  pub atoms : AscendBelow 0 f.vars (map (λ a. a.0) f.atoms)
  pub rows : All (λ a. IsRow a.1) f.atoms

-- a variable is in range and above that of every atom
pub record IsNextAtom (f : FormulaParts) (var : ℕ) : Type 0 where
  pub below : var < f.vars
  pub above : All (λ a. a.0 < var) f.atoms

-- a clause was added, and this is its place; or nothing was changed
abbrev pub AddsClause : FormulaParts → List Lit → FormulaParts → Result ℕ AllocError → Type 0
AddsClause old lits new (Ok id) = (id ≡ length old.clauses) × (new ≡ record old { clauses = old.clauses ++ lits ∷ [] })
AddsClause old lits new (Err e) = new ≡ old

-- an atom was added; or nothing was changed
abbrev pub AddsAtom : FormulaParts → ℕ → RowParts → FormulaParts → Result (Unit {0}) AllocError → Type 0
AddsAtom old var row new (Ok done) = new ≡ record old { atoms = old.atoms ++ (var, row) ∷ [] }
AddsAtom old var row new (Err e) = new ≡ old

-- a variable was added that is an atom with this row, and it was told; or nothing was changed
abbrev pub AppendsAtom : FormulaParts → RowParts → FormulaParts → Result ℕ AllocError → Type 0
AppendsAtom old row new (Ok var) = (var ≡ old.vars) × (new ≡ record old { vars = old.vars + 1; atoms = old.atoms ++ (old.vars, row) ∷ [] })
AppendsAtom old row new (Err e) = new ≡ old

-- a variable was added that is no atom, and it was told; or nothing was changed
abbrev pub AppendsVariable : FormulaParts → FormulaParts → Result ℕ AllocError → Type 0
AppendsVariable old new (Ok var) = (var ≡ old.vars) × (new ≡ record old { vars = old.vars + 1 })
AppendsVariable old new (Err e) = new ≡ old
