-- Forms: a number, and a sum of columns, each times a fraction.
use Rattle.std.specs.Prelude.{◌≡◌, ◌≤◌, ℕ, pos, List, [], ◌∷◌, ◌++◌, map, Option, Some, None}
use Rattle.std.specs.List.{All}
use Rattle.bt_frac.specs.Ratio.{Ratio, IsLowest, negated}
use Rattle.bt_frac.specs.Rows.{RowParts, HaveColumns, columns_of, end_of}
use Rattle.bt_frac.specs.declared.relation.Relation.TheVariants.{AtLeast, Above}

-- the number, and the columns with their coefficients
pub record FormParts : Type 0 where
  pub constant : Ratio
  pub terms : List (ℕ × Ratio)

-- the columns are those of a row, no coefficient is 0, and each fraction is in lowest terms
pub record IsForm (form : FormParts) : Type 0 where
  pub columns : HaveColumns form.terms
  pub nonzero : All (λ t. t.1.over ≡ pos 0 → ⊥) form.terms
  pub coefficients : All (λ t. IsLowest t.1) form.terms
  pub constant : IsLowest form.constant

-- there is a form of these parts where they are those of one, and otherwise none
abbrev pub IsFormOf : FormParts → Option FormParts → Type 0
IsFormOf parts (Some form) = IsForm form × (form ≡ parts)
IsFormOf parts None = IsForm parts → ⊥

-- the form is over so many columns
pub record IsFormOver (columns : ℕ) (form : FormParts) : Type 0 where
  pub is_form : IsForm form
  pub within : end_of (columns_of form.terms) ≤ columns

-- the terms with their signs turned
abbrev pub turned : List (ℕ × Ratio) → List (ℕ × Ratio)
turned terms = map (λ t. (t.0, negated t.1)) terms

-- the fraction 1
abbrev pub unit : Ratio
unit = record { over = pos 1; under = 1 }

-- the sum of the terms is at least the number
abbrev pub reached : FormParts → RowParts
reached form = record { terms = form.terms; relation = AtLeast; bound = form.constant }

-- the sum of the terms is less than the number: turned, it is above the number turned
abbrev pub missed : FormParts → RowParts
missed form = record { terms = turned form.terms; relation = Above; bound = negated form.constant }

-- the column less the terms, beside the number
abbrev pub column_less : ℕ → FormParts → FormParts
column_less column form = record { constant = form.constant; terms = turned form.terms ++ (column, unit) ∷ [] }

-- the terms less the column, beside the number turned
abbrev pub less_column : ℕ → FormParts → FormParts
less_column column form = record { constant = negated form.constant; terms = form.terms ++ (column, negated unit) ∷ [] }
