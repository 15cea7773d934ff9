-- The atoms of a formula, variable by variable.
use Rattle.std.specs.Prelude.{ℕ, ◌==◌, List, [], ◌∷◌, if◌then◌else◌, Option, Some, None}
use denote.Ref.{Bor}
use Rattle.std.specs.List.{flat_map}
use Rattle.bt_frac.specs.Rows.{RowParts}
use Rattle.bt_frac.specs.declared.row.Row.{Row}
use Rattle.bt_print.specs.declared.columns.Columns.{Columns}
use Rattle.bt_print.specs.FormulaText.{row_line}

-- the atom of a variable, where it has one: the first of these
abbrev pub atom_of : ℕ → List (ℕ × RowParts) → List (ℕ × RowParts)
atom_of var [] = []
atom_of var (atom ∷ atoms) = if atom.0 == var then atom ∷ [] else atom_of var atoms

-- a variable's atom, where this row is lent
abbrev pub atom_told : ℕ → Option (Bor Row) → List (ℕ × RowParts)
atom_told var (Some row) = (var, row.now) ∷ []
atom_told var None = []

-- the line of a variable, where it is an atom
abbrev pub row_at_text : Columns → List (ℕ × RowParts) → ℕ → List ℕ
row_at_text columns atoms var = flat_map (row_line columns) (atom_of var atoms)
