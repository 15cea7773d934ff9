-- What adding rows and clauses makes of a formula.
use Rattle.std.specs.List.{range_with_len}
use Rattle.std.specs.Prelude.{ℕ, ◌+◌, true, List, [], ◌∷◌, ◌++◌, length, map, flat_map}
use Rattle.bt_frac.specs.Rows.{RowParts}
use Rattle.bt_cnf.specs.declared.literal.Lit.{Lit}
use Rattle.bt_cnf.specs.Formulas.{FormulaParts}
use Rattle.bt_net.specs.Network.{Network}
use Rattle.bt_flow.specs.EndEdges.{output_edge}
use Rattle.bt_flow_formula.specs.Columns.{above}
use Rattle.bt_flow_formula.specs.Numbering.{atoms_from}
use Rattle.bt_flow_formula.specs.FlowFormula.{steady_formula}
use Rattle.bt_same.specs.SameFormula.{first_shift, second_columns, second_vars, moved_lits, moved_atoms}

-- the rows of a formula's atoms
abbrev pub rows_of : FormulaParts → List RowParts
rows_of f = map (λ a. a.1) f.atoms

-- a formula with a variable more for each of these rows
abbrev pub with_rows : FormulaParts → List RowParts → FormulaParts
with_rows f rows = record { vars = f.vars + length rows; clauses = f.clauses; atoms = f.atoms ++ atoms_from f.vars rows }

-- a formula with these clauses behind its own
abbrev pub with_lits : FormulaParts → List (List Lit) → FormulaParts
with_lits f clauses = record f { clauses = f.clauses ++ clauses }

-- the literals that say that rows hold which are variables from this one on
abbrev pub hold_from : ℕ → List RowParts → List Lit
hold_from next rows = map (λ a. record { var = a.0; positive = true }) (atoms_from next rows)

-- the rows that two columns differ
abbrev pub differing_rows : ℕ → ℕ → List RowParts
differing_rows a b = above a b ∷ above b a ∷ []

-- the rows that the flows of some output differ
abbrev pub difference_rows : Network → Network → List RowParts
difference_rows a b = flat_map (λ o. differing_rows (output_edge a o) (output_edge b o + length a.edges)) (range_with_len 0 a.outputs)

-- the formulas of the steady states of two networks, side by side
abbrev pub networks_formula : Network → Network → FormulaParts
networks_formula a b =
    let first = steady_formula a in
    let second = steady_formula b in
    record {
      vars = first.vars + second.vars;
      clauses = map (moved_lits (first_shift a b)) first.clauses ++ map (moved_lits (second_vars a b)) second.clauses;
      atoms = moved_atoms (first_shift a b) (first_shift a b) first.atoms ++ moved_atoms (second_vars a b) (second_columns a b) second.atoms;
    }
