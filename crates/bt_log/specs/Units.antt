-- Learnt clauses: what follows where all their literals are false.
use Rattle.std.specs.Prelude.{List, [], ◌∷◌, Contains}
use Rattle.std.specs.List.{All}
use Rattle.bt_cnf.specs.Units.{IsUnit, opposite}
use Rattle.bt_cnf.specs.declared.literal.Lit.{Lit}

-- the clauses come in turn: each but the last is a unit, whose literal is true from then on, and the last has
-- only false literals
abbrev pub UnitsRefute : List Lit → List (List Lit) → Type 0
UnitsRefute falses [] = ⊥
UnitsRefute falses (clause ∷ []) = All (Contains falses) clause
UnitsRefute falses (clause ∷ next ∷ more) = (l : Lit) × IsUnit falses clause l × UnitsRefute (opposite l ∷ falses) (next ∷ more)
