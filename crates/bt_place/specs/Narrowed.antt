-- Formulas with more clauses.
use Rattle.std.specs.Prelude.{◌≡◌, List, ◌++◌}
use Rattle.bt_cnf.specs.declared.literal.Lit.{Lit}
use Rattle.bt_cnf.specs.Formulas.{FormulaParts}

-- the formula is the other one with more clauses behind those that it has
abbrev pub IsNarrowed : FormulaParts → FormulaParts → Type 0
IsNarrowed old new = (more : List (List Lit)) × (new ≡ record old { clauses = old.clauses ++ more })
