-- The clauses that are known before a step.
use Rattle.std.specs.Prelude.{◌≡◌, ℕ, ◌<◌, ◌↔◌, Bool, IsTrue, List, ◌∷◌, [], ◌++◌, length}
use Rattle.std.specs.List.{All}
use Rattle.bt_cnf.specs.Formulas.{FormulaParts, LitsBelow, IsFormula}
use Rattle.bt_cnf.specs.declared.literal.Lit.{Lit}
use Rattle.bt_cnf.specs.Units.{clause_at}
use Rattle.bt_cert.specs.inner.Checking.{Checking}

-- the formula, and its clauses with those that were added
abbrev pub known_of : FormulaParts → List (List Lit) → Checking
known_of formula added = record { formula = formula; clauses = formula.clauses ++ added }

-- the formula is one, and each literal that was added is of a variable of it
pub record IsKnown (f : FormulaParts) (more : List (List Lit)) : Type 0 where
  pub formula : IsFormula f
  pub added : All (LitsBelow f.vars) more

-- this is the clause at a place, and its literals are of variables of the formula
pub record IsClauseAt (known : Checking) (place : ℕ) (clause : List Lit) : Type 0 where
  pub inside : place < length known.clauses
  pub value : clause_at known.clauses place ≡ clause
  pub below : LitsBelow known.formula.vars clause

-- one more clause is known
abbrev pub with_clause : Checking → List Lit → Checking
with_clause known clause = record known { clauses = known.clauses ++ clause ∷ [] }

-- a clause was added, and whether it is empty is told
abbrev pub AddsClause : Checking → List Lit → Checking → Bool → Type 0
AddsClause old clause new is_empty = (new ≡ with_clause old clause) × (IsTrue is_empty ↔ (clause ≡ []))
