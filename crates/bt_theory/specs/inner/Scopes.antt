-- Tableaus of some of a formula's rows, and conflicts that are found in them.
use Rattle.std.specs.Prelude.{◌≡◌, ℕ, ◌<◌, Bool, true, false, List, length, map, slice_index_or, Ok, Contains}
use Rattle.std.specs.List.{All}
use Rattle.bt_frac.specs.Ratio.{Ratio}
use Rattle.bt_frac.specs.Rows.{RowParts}
use Rattle.bt_farkas.specs.Farkas.{IsFarkas}
use Rattle.bt_farkas.specs.WeightedRows.{empty_row}
use Rattle.bt_simplex.specs.Weights.{weighted_rows}
use Rattle.bt_cnf.specs.Assignments.{truth_in}
use Rattle.bt_cnf.specs.Formulas.{FormulaParts}
use Rattle.bt_cnf.specs.declared.literal.Lit.{Lit}
use Rattle.bt_theory.specs.Outcomes.{FitsLemma}
use Rattle.bt_theory.specs.declared.lemma.Conflict.{Conflict}
use Rattle.bt_theory.specs.declared.scope.Scope.{Scope}

-- the negations of the variables that have the weighed rows
abbrev pub negations : List ℕ → List (ℕ × Ratio) → List Lit
negations atoms weighed = map (λ w. record { var = slice_index_or atoms w.0 0; positive = false }) weighed

-- the weights
abbrev pub weights_of : List (ℕ × Ratio) → List Ratio
weights_of weighed = map (λ w. w.1) weighed

-- the conflict has the negations of these atoms and the weights
abbrev pub IsConflictOf : List ℕ → List (ℕ × Ratio) → Conflict → Type 0
IsConflictOf atoms weighed conflict = (conflict.lits.items ≡ negations atoms weighed) × (conflict.weights.items ≡ weights_of weighed)

-- the conflict is that of weighed rows, which add up to one that no values meet
pub record IsShown (atoms : List ℕ) (rows : List RowParts) (weighed : List (ℕ × Ratio)) (conflict : Conflict) : Type 0 where
  pub of : IsConflictOf atoms weighed conflict
  pub accepted : IsFarkas (weighted_rows rows weighed) (Ok true)

-- each variable is an atom of the formula, and has the row at the same place
pub record AreAtoms (f : FormulaParts) (atoms : List ℕ) (rows : List RowParts) : Type 0 where
  pub paired : length atoms ≡ length rows
  pub have : (k : ℕ) → k < length atoms → Contains f.atoms (slice_index_or atoms k 0, slice_index_or rows k empty_row)

-- the variables and the rows of a scope
abbrev pub parts_of : Scope → List ℕ × List RowParts
parts_of scope = (scope.atoms.items, scope.rows.items)

-- there is a row for each variable
abbrev pub IsPaired : List ℕ × List RowParts → Type 0
IsPaired parts = length parts.0 ≡ length parts.1

-- the scope is one of the formula
abbrev pub IsScopeOf : FormulaParts → List ℕ × List RowParts → Type 0
IsScopeOf f parts = AreAtoms f parts.0 parts.1

-- the conflict's literals negate atoms that are true under the assignment, and whose rows with the weights add up to
-- one that no values meet
pub record IsConflict (f : FormulaParts) (assignment : List Bool) (conflict : Conflict) : Type 0 where
  pub fits : FitsLemma f conflict.lits.items conflict.weights.items
  pub counted : length conflict.weights.items ≡ length conflict.lits.items
  pub unmet : All (λ l. (l.positive ≡ false) × (truth_in assignment l.var ≡ true)) conflict.lits.items

-- of these variables some are true under the assignment, and their rows, which are weighed, add up to one that no
-- values meet
pub record IsConflictIn (assignment : List Bool) (conflict : Conflict) (parts : List ℕ × List RowParts) : Type 0 where
  pub weighed : List (ℕ × Ratio)
  pub below : All (λ w. w.0 < length parts.0) weighed
  pub is : IsConflictOf parts.0 weighed conflict
  pub holds : All (λ w. truth_in assignment (slice_index_or parts.0 w.0 0) ≡ true) weighed
  pub accepted : IsFarkas (weighted_rows parts.1 weighed) (Ok true)
