-- Clauses of which some literals are false.
use Rattle.std.specs.Prelude.{◌≡◌, ◌⊎◌, ℕ, List, [], not, slice_index_or, Contains}
use Rattle.std.specs.List.{All}
use Rattle.bt_cnf.specs.declared.literal.Lit.{Lit}

-- the literal that is true where this one is false
abbrev pub opposite : Lit → Lit
opposite l = record { var = l.var; positive = not l.positive }

-- no variable stands there with both signs
abbrev pub HasNoBothSigns : List Lit → Type 0
HasNoBothSigns lits = (l : Lit) → Contains lits l → Contains lits (opposite l) → ⊥

-- where these literals are false, the clause has no true literal, and this literal alone is neither true nor false
pub record IsUnit (falses clause : List Lit) (l : Lit) : Type 0 where
  pub among : Contains clause l
  pub unset : Contains falses l → ⊥
  pub not_true : Contains falses (opposite l) → ⊥
  pub others : All (λ other. (other ≡ l) ⊎ Contains falses other) clause

-- the clause with this number
abbrev pub clause_at : List (List Lit) → ℕ → List Lit
clause_at clauses number = slice_index_or clauses number []
