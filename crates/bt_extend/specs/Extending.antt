-- Formulas that definitions extend.
use Rattle.std.specs.Prelude.{◌≡◌, ℕ, ◌+◌, true, false, not, List, [], ◌∷◌, ◌++◌, map}
use Rattle.bt_cnf.specs.declared.literal.Lit.{Lit}
use Rattle.bt_cnf.specs.Formulas.{FormulaParts}
use Rattle.bt_extend.specs.Definitions.{columns_of, IsDefinition}
use Rattle.bt_extend.specs.Forms.{FormParts, reached, missed, column_less, less_column}
use Rattle.bt_extend.specs.declared.definition.NamedLit.{NamedLit}
use Rattle.bt_extend.specs.declared.definition.Definition.{Definition}
use Rattle.bt_extend.specs.declared.definition.Definition.TheVariants.{Comparison, Cases, Disjunction}

-- the literal that is true where the variable is
abbrev pub asserted : ℕ → Lit
asserted var = record { var = var; positive = true }

-- the literal that is true where the variable isn't
abbrev pub denied : ℕ → Lit
denied var = record { var = var; positive = false }

-- the literal
abbrev pub lit_of : NamedLit → Lit
lit_of l = record { var = l.var; positive = l.positive }

-- the literal that is true where this one isn't
abbrev pub opposite_of : NamedLit → Lit
opposite_of l = record { var = l.var; positive = not l.positive }

-- with a comparison: two more variables, whose atoms say that the form's terms reach its number and that they don't,
-- and the clause of both
abbrev pub with_comparison : FormulaParts → FormParts → FormulaParts
with_comparison f form = record {
  vars = f.vars + 2;
  clauses = f.clauses ++ (asserted f.vars ∷ asserted (f.vars + 1) ∷ []) ∷ [];
  atoms = f.atoms ++ (f.vars, reached form) ∷ (f.vars + 1, missed form) ∷ [];
}

-- with a column compared with a form, number included: that it is at least that, and that it is at most that
abbrev pub with_column : FormulaParts → ℕ → FormParts → FormulaParts
with_column f column form = with_comparison (with_comparison f (column_less column form)) (less_column column form)

-- with one more column, which is the first form, number included, where the variable is true, and else the second: of
-- the comparisons with both, eight more variables, the variable chooses which hold
abbrev pub with_cases : FormulaParts → ℕ → FormParts → FormParts → FormulaParts
with_cases f var first second =
    let compared = with_column (with_column f (columns_of f) first) (columns_of f) second in
    record compared {
      clauses = compared.clauses ++ (denied var ∷ asserted f.vars ∷ []) ∷ (denied var ∷ asserted (f.vars + 2) ∷ [])
          ∷ (asserted var ∷ asserted (f.vars + 4) ∷ []) ∷ (asserted var ∷ asserted (f.vars + 6) ∷ []) ∷ [];
    }

-- with one more variable, which is true just where one of the literals is
abbrev pub with_disjunction : FormulaParts → List NamedLit → FormulaParts
with_disjunction f lits = record f {
  vars = f.vars + 1;
  clauses = f.clauses ++ (denied f.vars ∷ map lit_of lits) ∷ map (λ l. asserted f.vars ∷ opposite_of l ∷ []) lits;
}

-- the formula with one more definition
abbrev pub with_definition : FormulaParts → Definition → FormulaParts
with_definition f (Comparison form) = with_comparison f form
with_definition f (Cases var first second) = with_cases f var first second
with_definition f (Disjunction lits) = with_disjunction f lits

-- the formula with definitions in their order, each over the formula with those before it
abbrev pub extended : FormulaParts → List Definition → FormulaParts
extended f [] = f
extended f (d ∷ ds) = extended (with_definition f d) ds

-- each definition may extend the formula with those before it
abbrev pub AreDefinitions : FormulaParts → List Definition → Type 0
AreDefinitions f [] = Unit {0}
AreDefinitions f (d ∷ ds) = IsDefinition f d × AreDefinitions (with_definition f d) ds

-- nothing comes first of these, or a definition that may not extend the formula
abbrev pub BeginsWithNone : FormulaParts → List Definition → Type 0
BeginsWithNone f [] = Unit {0}
BeginsWithNone f (d ∷ ds) = IsDefinition f d → ⊥

-- of the definitions that were given these were taken: all in front of the first that may not extend the formula with
-- those before it
pub record AreTaken (f : FormulaParts) (given taken : List Definition) : Type 0 where
  pub are : AreDefinitions f taken
  pub rest : List Definition
  pub front : given ≡ taken ++ rest
  pub stops : BeginsWithNone (extended f taken) rest
