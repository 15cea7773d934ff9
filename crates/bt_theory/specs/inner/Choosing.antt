-- An assignment that is chosen within a model: it keeps some true literal of each clause.
use Rattle.std.specs.Prelude.{◌≡◌, ◌⊎◌, ℕ, Bool, true, false, List, length, Option, Some, None}
use Rattle.std.specs.List.{All, Any}
use Rattle.bt_cnf.specs.Assignments.{truth_in}
use Rattle.bt_cnf.specs.declared.literal.Lit.{Lit}

-- what is chosen is true in the model
abbrev pub IsWithin : List Bool → List Bool → Type 0
IsWithin model chosen = (var : ℕ) → truth_in chosen var ≡ true → truth_in model var ≡ true

-- the literal is true however more of the model is chosen: it is positive and chosen, or negative and its variable is
-- false in the model
abbrev pub IsSettled : List Bool → List Bool → Lit → Type 0
IsSettled model chosen l = ((l.positive ≡ true) × (truth_in chosen l.var ≡ true)) ⊎ ((l.positive ≡ false) × (truth_in model l.var ≡ false))

-- a literal that is true in the model is settled: it is negative, or chosen
abbrev pub StaysTrue : List Bool → Lit → Type 0
StaysTrue chosen l = (l.positive ≡ false) ⊎ (truth_in chosen l.var ≡ true)

-- the clause has a literal that is settled
abbrev pub HasSettled : List Bool → List Bool → List Lit → Type 0
HasSettled model chosen lits = Any (IsSettled model chosen) lits

-- a variable of a positive literal that is true in the model
abbrev pub IsChoice : List Bool → List Lit → ℕ → Type 0
IsChoice model lits var = Any (λ l. (l.positive ≡ true) × (l.var ≡ var)) lits × (truth_in model var ≡ true)

-- what is to be chosen for a clause: nothing where it has a settled literal, and else a variable that settles one
abbrev pub Settles : List Bool → List Bool → List Lit → Option ℕ → Type 0
Settles model chosen lits (Some var) = IsChoice model lits var
Settles model chosen lits None = HasSettled model chosen lits

-- so much is chosen of the model that each of these clauses has a settled literal
pub record IsChosen (model chosen : List Bool) (clauses : List (List Lit)) : Type 0 where
  pub size : length chosen ≡ length model
  pub within : IsWithin model chosen
  pub settled : All (HasSettled model chosen) clauses
