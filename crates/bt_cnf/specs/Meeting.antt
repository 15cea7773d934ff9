-- When an assignment with values meets a formula.
use Rattle.std.specs.Prelude.{◌≡◌, ℕ, Bool, true, List}
use Rattle.std.specs.List.{All, Any}
use Rattle.bt_frac.specs.Ratio.{Ratio}
use Rattle.bt_frac.specs.Values.{RowHolds}
use Rattle.bt_cnf.specs.Formulas.{FormulaParts}
use Rattle.bt_cnf.specs.declared.literal.Lit.{Lit}

-- the literal is true under the assignment
abbrev pub IsTrueUnder : (ℕ → Bool) → Lit → Type 0
IsTrueUnder assignment l = assignment l.var ≡ l.positive

-- the clause has a true literal
abbrev pub MeetsClause : (ℕ → Bool) → List Lit → Type 0
MeetsClause assignment clause = Any (IsTrueUnder assignment) clause

-- each clause has a true literal, and the row of each atom that is true holds of the values
pub record Meets (f : FormulaParts) (assignment : ℕ → Bool) (values : ℕ → Ratio) : Type 0 where
  pub clauses : All (MeetsClause assignment) f.clauses
  pub atoms : All (λ a. assignment a.0 ≡ true → RowHolds a.1 values) f.atoms
