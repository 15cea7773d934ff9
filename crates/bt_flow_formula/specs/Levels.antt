-- What says that of the ends of one kind one is short and carries less than another: it is below a level, which the
-- other reaches. The level has a column of its own, behind those of a state.
use Rattle.std.specs.List.{range_with_len}
use Rattle.std.specs.Prelude.{ℕ, ◌+◌, ◌*◌, true, false, List, [], ◌∷◌, ◌++◌, length, map}
use Rattle.bt_frac.specs.Rows.{RowParts}
use Rattle.bt_net.specs.Network.{Network}
use Rattle.bt_flow.specs.declared.ports.End.{End}
use Rattle.bt_flow.specs.declared.ports.End.TheVariants.{Input, Output}
use Rattle.bt_cnf.specs.declared.literal.Lit.{Lit}
use Rattle.bt_cnf.specs.Formulas.{FormulaParts}
use Rattle.bt_flow_formula.specs.declared.level.LevelRow.{LevelRow}
use Rattle.bt_flow_formula.specs.declared.level.LevelRow.TheVariants.{Below, Short, Reached}
use Rattle.bt_flow.specs.EndEdges.{input_edge, output_edge, load_column, room_column}
use Rattle.bt_flow_formula.specs.Columns.{not_below, above}
use Rattle.bt_flow_formula.specs.Numbering.{atoms_from}

-- the column of the level: it comes behind the rooms
abbrev pub level_column : Network → ℕ
level_column n = length n.edges + n.inputs + n.outputs

-- how many ends of a kind a network has
abbrev pub end_count : Network → End → ℕ
end_count n Input = n.inputs
end_count n Output = n.outputs

-- the edge of an end
abbrev pub end_edge : Network → End → ℕ → ℕ
end_edge n Input i = input_edge n i
end_edge n Output o = output_edge n o

-- the column of what an end may carry: the load of an input, the room of an output
abbrev pub limit_column : Network → End → ℕ → ℕ
limit_column n Input i = load_column n i
limit_column n Output o = room_column n o

-- a row about an end: its flow is below the level; it is short; its flow is at least the level
abbrev pub level_row : Network → End → LevelRow → ℕ → RowParts
level_row n end Below k = above (level_column n) (end_edge n end k)
level_row n end Short k = above (limit_column n end k) (end_edge n end k)
level_row n end Reached k = not_below (end_edge n end k) (level_column n)

-- such a row about each end
abbrev pub end_rows : Network → End → LevelRow → List RowParts
end_rows n end row = map (level_row n end row) (range_with_len 0 (end_count n end))

-- all rows that a level needs
abbrev pub level_rows : Network → End → List RowParts
level_rows n end = end_rows n end Below ++ end_rows n end Short ++ end_rows n end Reached

-- of so many variables from one on one is true
abbrev pub some_of : ℕ → ℕ → List Lit
some_of first count = map (λ k. record { var = first + k; positive = true }) (range_with_len 0 count)

-- where the first variable is true, so is the second
abbrev pub implies : ℕ → ℕ → List Lit
implies a b = record { var = a; positive = false } ∷ record { var = b; positive = true } ∷ []

-- each of so many variables from one on that is true has the one so many later beside it
abbrev pub each_implies : ℕ → ℕ → List (List Lit)
each_implies first count = map (λ k. implies (first + k) (first + count + k)) (range_with_len 0 count)

-- where the first of the rows of so many ends has this variable: one end is said to be below the level, each that is
-- said so is short, and one end reaches the level
abbrev pub level_clauses : ℕ → ℕ → List (List Lit)
level_clauses first count = some_of first count ∷ (each_implies first count ++ some_of (first + 2 * count) count ∷ [])

-- a formula with rows behind its own, each of which is a variable
abbrev pub with_rows : FormulaParts → List RowParts → FormulaParts
with_rows f rows = record f { vars = f.vars + length rows; atoms = f.atoms ++ atoms_from f.vars rows }

-- a formula with clauses behind its own
abbrev pub with_more : FormulaParts → List (List Lit) → FormulaParts
with_more f clauses = record f { clauses = f.clauses ++ clauses }

-- a formula with a level behind it, with which ends are compared
abbrev pub with_level : Network → End → FormulaParts → FormulaParts
with_level n end f = with_more (with_rows f (level_rows n end)) (level_clauses f.vars (end_count n end))
