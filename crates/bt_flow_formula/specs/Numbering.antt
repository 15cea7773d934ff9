-- The numbering of claims: a row that is mentioned is a variable of its own, in the order of mention, and the first row
-- of a pair has one variable wherever it is named. It counts as the program does; what the formula is for doesn't rest
-- on how it counts: a state meets it exactly where it breaks the property (the laws of `bt_flow_formula`).
use Rattle.std.specs.Prelude.{◌≡◌, ℕ, ◌+◌, ◌<◌, true, List, [], ◌∷◌, ◌++◌, length, flat_map}
use Rattle.std.specs.List.{AllByRecursion}
use Rattle.bt_frac.specs.Rows.{RowParts}
use Rattle.bt_cnf.specs.declared.literal.Lit.{Lit}
use Rattle.bt_cnf.specs.Formulas.{FormulaParts}
use Rattle.bt_flow_formula.specs.declared.state_literal.Pair.{Pair}
use Rattle.bt_flow_formula.specs.declared.state_literal.StateLiteral.{StateLiteral}
use Rattle.bt_flow_formula.specs.declared.state_literal.StateLiteral.TheVariants.{Mark, Says, First}
use Rattle.bt_flow_formula.specs.Pairs.{first_row}

-- the row that a claim mentions, where it does
abbrev pub mentioned : StateLiteral → List RowParts
mentioned (Mark a backed) = []
mentioned (Says row) = row ∷ []
mentioned (First pair) = []

-- the rows that clauses mention, in their order
abbrev pub rows_in : List (List StateLiteral) → List RowParts
rows_in clauses = flat_map (flat_map mentioned) clauses

-- the literals of claims, where the first row mentioned has this variable, an edge's mark has the edge's number,
-- and the first rows of pairs have these variables
abbrev pub literals_from : (Pair → ℕ) → ℕ → List StateLiteral → List Lit
literals_from at next [] = []
literals_from at next (Mark a backed ∷ claims) = record { var = a; positive = backed } ∷ literals_from at next claims
literals_from at next (Says row ∷ claims) = record { var = next; positive = true } ∷ literals_from at (next + 1) claims
literals_from at next (First pair ∷ claims) = record { var = at pair; positive = true } ∷ literals_from at next claims

-- clauses of claims as clauses of literals, where the first row mentioned has this variable
abbrev pub clauses_from : (Pair → ℕ) → ℕ → List (List StateLiteral) → List (List Lit)
clauses_from at next [] = []
clauses_from at next (claims ∷ clauses) = literals_from at next claims ∷ clauses_from at (next + length (flat_map mentioned claims)) clauses

-- rows with their variables, one after another from this one on
abbrev pub atoms_from : ℕ → List RowParts → List (ℕ × RowParts)
atoms_from next [] = []
atoms_from next (row ∷ rows) = (next, row) ∷ atoms_from (next + 1) rows

-- the formula of clauses of claims: the marks of so many edges, and then the rows in the order of mention
abbrev pub formula_of : (Pair → ℕ) → ℕ → List (List StateLiteral) → FormulaParts
formula_of at marks clauses = record { vars = marks + length (rows_in clauses); clauses = clauses_from at marks clauses; atoms = atoms_from marks (rows_in clauses) }

-- the row is among the rows, and this is its variable where the first of them has that one
pub record IsVariable (first : ℕ) (rows : List RowParts) (row : RowParts) (var : ℕ) : Type 0 where
  pub before : List RowParts
  pub after : List RowParts
  pub split : rows ≡ before ++ row ∷ after
  pub place : var ≡ first + length before

-- a claim's mark is of an edge below this number, and the variable of a pair that it names is that of its first row
abbrev pub IsNamed : (Pair → ℕ) → ℕ → List RowParts → StateLiteral → Type 0
IsNamed at marks rows (Mark a backed) = a < marks
IsNamed at marks rows (Says row) = Unit {0}
IsNamed at marks rows (First pair) = IsVariable marks rows (first_row pair) (at pair)

-- so it is of all claims of all clauses, with the rows that these mention
abbrev pub AreNamed : (Pair → ℕ) → ℕ → List (List StateLiteral) → Type 0
AreNamed at marks clauses = AllByRecursion (AllByRecursion (IsNamed at marks (rows_in clauses))) clauses
