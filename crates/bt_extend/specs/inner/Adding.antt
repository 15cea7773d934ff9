-- Clauses that are added to a formula one after another.
use Rattle.std.specs.Prelude.{ℕ, ◌+◌, List, [], ◌∷◌, ◌++◌, map}
use Rattle.bt_cnf.specs.Formulas.{FormulaParts}
use Rattle.bt_extend.specs.Extending.{asserted, denied, lit_of, opposite_of}
use Rattle.bt_extend.specs.declared.definition.NamedLit.{NamedLit}

-- with a clause of two literals
abbrev pub with_pair : FormulaParts → NamedLit → NamedLit → FormulaParts
with_pair f first second = record f { clauses = f.clauses ++ (lit_of first ∷ lit_of second ∷ []) ∷ [] }

-- with the clauses by which a variable chooses among eight variables from this one on
abbrev pub with_choices : FormulaParts → ℕ → ℕ → FormulaParts
with_choices f first var = record f {
  clauses = f.clauses ++ (denied var ∷ asserted first ∷ []) ∷ (denied var ∷ asserted (first + 2) ∷ [])
      ∷ (asserted var ∷ asserted (first + 4) ∷ []) ∷ (asserted var ∷ asserted (first + 6) ∷ []) ∷ [];
}

-- with the clauses that a variable is true where a literal is
abbrev pub with_opposites : FormulaParts → ℕ → List NamedLit → FormulaParts
with_opposites f var lits = record f { clauses = f.clauses ++ map (λ l. asserted var ∷ opposite_of l ∷ []) lits }
