-- The formula of two networks, which the pairs of states that show a difference meet.
use Rattle.std.specs.List.{range_with_len}
use Rattle.std.specs.Prelude.{ℕ, ◌+◌, nat_lt, length, List, [], ◌∷◌, ◌++◌, map, flat_map, if◌then◌else◌}
use Rattle.bt_frac.specs.Rows.{RowParts}
use Rattle.bt_net.specs.Network.{Network}
use Rattle.bt_cnf.specs.declared.literal.Lit.{Lit}
use Rattle.bt_cnf.specs.Formulas.{FormulaParts}
use Rattle.bt_flow_formula.specs.declared.state_literal.StateLiteral.{StateLiteral}
use Rattle.bt_flow.specs.EndEdges.{output_edge}
use Rattle.bt_flow_formula.specs.Properties.{differ}
use Rattle.bt_flow_formula.specs.Numbering.{formula_of}
use Rattle.bt_flow_formula.specs.FlowFormula.{steady_formula}
use Rattle.bt_same.specs.declared.shift.Shift.{Shift}

-- a number of one network's formula, in that of two: those of its edges go so far, and those behind them so far
abbrev pub shifted : Shift → ℕ → ℕ
shifted shift k = if nat_lt k shift.edges then k + shift.near else k + shift.far

-- where the columns and variables of the first network go: the edges of the second come behind its own
abbrev pub first_shift : Network → Network → Shift
first_shift a b = record { edges = length a.edges; near = 0; far = length b.edges }

-- where the columns of the second network go: its flows behind those of the first; loads and rooms are those of both
abbrev pub second_columns : Network → Network → Shift
second_columns a b = record { edges = length b.edges; near = length a.edges; far = length a.edges }

-- where the variables of the second network go: its marks behind those of the first, its atoms behind all of the first
abbrev pub second_vars : Network → Network → Shift
second_vars a b = record { edges = length b.edges; near = length a.edges; far = (steady_formula a).vars }

-- literals, a row and the atoms of a formula, put where they go
abbrev pub moved_lits : Shift → List Lit → List Lit
moved_lits vars lits = map (λ l. record { var = shifted vars l.var; positive = l.positive }) lits

abbrev pub moved_row : Shift → RowParts → RowParts
moved_row columns row = record { terms = map (λ t. (shifted columns t.0, t.1)) row.terms; relation = row.relation; bound = row.bound }

abbrev pub moved_atoms : Shift → Shift → List (ℕ × RowParts) → List (ℕ × RowParts)
moved_atoms vars columns atoms = map (λ a. (shifted vars a.0, moved_row columns a.1)) atoms

-- of some output the flows in the two networks differ: one is above the other
abbrev pub difference : Network → Network → List StateLiteral
difference a b = flat_map (λ o. differ (output_edge a o) (output_edge b o + length a.edges)) (range_with_len 0 a.outputs)

-- the formula of the one clause that the flows differ, behind so many variables
abbrev pub difference_formula : Network → Network → ℕ → FormulaParts
difference_formula a b vars = formula_of (λ pair. 0) vars (difference a b ∷ [])

-- the formula of two networks. Its columns are the flows of the first, those of the second, the loads and the rooms;
-- its variables the marks of the first, those of the second, and the atoms in the order of mention. Its clauses are
-- those of the steady states of the first, those of the second, and that they differ.
abbrev pub same_formula : Network → Network → FormulaParts
same_formula a b =
    let first = steady_formula a in
    let second = steady_formula b in
    let last = difference_formula a b (first.vars + second.vars) in
    record {
      vars = last.vars;
      clauses = map (moved_lits (first_shift a b)) first.clauses ++ map (moved_lits (second_vars a b)) second.clauses ++ last.clauses;
      atoms = moved_atoms (first_shift a b) (first_shift a b) first.atoms ++ moved_atoms (second_vars a b) (second_columns a b) second.atoms ++ last.atoms;
    }
