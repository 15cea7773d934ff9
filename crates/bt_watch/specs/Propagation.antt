-- Unit propagation: what follows where some literals are taken as false.
use Rattle.std.specs.Prelude.{List, ◌∷◌, Contains}
use Rattle.std.specs.List.{All}
use Rattle.bt_cnf.specs.declared.literal.Lit.{Lit}
use Rattle.bt_cnf.specs.Units.{opposite, IsUnit}

-- propagation over the clauses, begun with some literals false, comes to these false literals: a clause that is a
-- unit makes its literal true, and so its opposite false
pub data Reaches (clauses : List (List Lit)) (begun : List Lit) : List Lit → Type 0 where
  begins : Reaches clauses begun begun
  goes_on : (falses clause : List Lit) (l : Lit) → Reaches clauses begun falses → Contains clauses clause → IsUnit falses clause l
      → Reaches clauses begun (opposite l ∷ falses)

-- the clause has only false literals
abbrev pub IsFalseClause : List Lit → List Lit → Type 0
IsFalseClause falses clause = All (Contains falses) clause

-- propagation comes to a false clause
pub record MeetsFalse (clauses : List (List Lit)) (begun : List Lit) : Type 0 where
  pub falses : List Lit
  pub reached : Reaches clauses begun falses
  pub clause : List Lit
  pub among : Contains clauses clause
  pub is_false : IsFalseClause falses clause

-- propagation makes a literal true
pub record MakesTrue (clauses : List (List Lit)) (begun : List Lit) (l : Lit) : Type 0 where
  pub falses : List Lit
  pub reached : Reaches clauses begun falses
  pub holds : Contains falses (opposite l)

-- where these literals are false, no clause is false and none is a unit: propagation has come to its end
pub record IsFullyPropagated (clauses : List (List Lit)) (falses : List Lit) : Type 0 where
  pub no_false : All (λ clause. IsFalseClause falses clause → ⊥) clauses
  pub no_unit : All (λ clause. (l : Lit) → IsUnit falses clause l → ⊥) clauses
