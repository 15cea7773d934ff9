-- The texts of a formula's rows and clauses.
use Rattle.std.specs.Prelude.{ℕ, ◌+◌, ◌-◌, nat_lt, List, [], ◌∷◌, ◌++◌, length, Option, None, Some, if◌then◌else◌, codes, decimal}
use Rattle.std.specs.List.{flat_map}
use Rattle.bt_text.specs.Lines.{line}
use Rattle.bt_frac.specs.Ratio.{Ratio}
use Rattle.bt_frac.specs.Rows.{RowParts}
use Rattle.bt_frac.specs.Texts.{frac_text}
use Rattle.bt_frac.specs.declared.relation.Relation.{Relation}
use Rattle.bt_frac.specs.declared.relation.Relation.TheVariants.{AtLeast, Above, Equal}
use Rattle.bt_cnf.specs.Formulas.{FormulaParts}
use Rattle.bt_cnf.specs.declared.literal.Lit.{Lit}
use Rattle.bt_log.specs.LogText.{words, lit_text}
use Rattle.bt_print.specs.declared.columns.Columns.{Columns}

-- the word for how a row stands to its bound
abbrev pub relation_text : Relation → List ℕ
relation_text AtLeast = codes ">="
relation_text Above = codes ">"
relation_text Equal = codes "="

-- the number of a column among those of its kind, where the kind has several
abbrev pub column_number : Option ℕ → List ℕ
column_number None = []
column_number (Some number) = decimal number

-- a column: `f` and the number of an edge, whose flow it is; or `c` and that of an input, whose load it is; or `d` and
-- that of an output, whose room it is; or `x`, a level with which ends are compared
abbrev pub column_text : Columns → ℕ → List ℕ
column_text columns column =
    if nat_lt column columns.edges then codes "f" ++ decimal column
    else (if nat_lt (column - columns.edges) columns.inputs then codes "c" ++ decimal (column - columns.edges)
    else (if nat_lt (column - columns.edges - columns.inputs) columns.outputs then codes "d" ++ decimal (column - columns.edges - columns.inputs)
    else codes "x"))

-- a term: its coefficient, `*`, and its column
abbrev pub term_text : Columns → ℕ × Ratio → List ℕ
term_text columns term = frac_text term.1 ++ codes "*" ++ column_text columns term.0

-- an atom's line up to its terms: `c row`, the variable, from 1 on, the relation, and the bound
abbrev pub row_head : ℕ → RowParts → List ℕ
row_head var row = codes "c row " ++ decimal (var + 1) ++ codes " " ++ relation_text row.relation ++ codes " " ++ frac_text row.bound

-- an atom's line: its head, and its terms
abbrev pub row_line : Columns → ℕ × RowParts → List ℕ
row_line columns atom = line (row_head atom.0 atom.1 ++ words (term_text columns) atom.1.terms)

-- a line for each atom
abbrev pub rows_text : Columns → FormulaParts → List ℕ
rows_text columns f = flat_map (row_line columns) f.atoms

-- the header: `p cnf`, and how many variables and clauses there are
abbrev pub dimacs_header : FormulaParts → List ℕ
dimacs_header f = line (codes "p cnf " ++ decimal f.vars ++ codes " " ++ decimal (length f.clauses))

-- literals, each with a space behind it
abbrev pub literals_text : List Lit → List ℕ
literals_text lits = flat_map (λ lit. lit_text lit ++ 32 ∷ []) lits

-- a clause's line: its literals, and 0
abbrev pub clause_line : List Lit → List ℕ
clause_line lits = literals_text lits ++ codes "0\n"

-- the header, and a line for each clause
abbrev pub clauses_text : FormulaParts → List ℕ
clauses_text f = dimacs_header f ++ flat_map clause_line f.clauses
