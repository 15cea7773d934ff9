-- Definitions over a formula: when they may extend it.
use Rattle.std.specs.Prelude.{◌≢◌, ℕ, ◌<◌, ◌-◌, ◌^◌, List, [], map}
use Rattle.bt_frac.specs.Rows.{columns_in, end_of}
use Rattle.bt_cnf.specs.Formulas.{FormulaParts, AscendBelow}
use Rattle.bt_extend.specs.Forms.{IsFormOver}
use Rattle.bt_extend.specs.declared.definition.NamedLit.{NamedLit}
use Rattle.bt_extend.specs.declared.definition.Definition.{Definition}
use Rattle.bt_extend.specs.declared.definition.Definition.TheVariants.{Comparison, Cases, Disjunction}

-- how many columns a formula has: those up to the greatest that a row names
abbrev pub columns_of : FormulaParts → ℕ
columns_of f = end_of (columns_in (map (λ a. a.1) f.atoms))

-- the variables of literals, of which there is at least one, ascend and are below a number
abbrev pub AreSortedBelow : ℕ → List NamedLit → Type 0
AreSortedBelow vars lits = (lits ≢ []) × AscendBelow 0 vars (map (λ l. l.var) lits)

-- the definition may extend the formula: its forms are over the formula's columns, and its literals are of the
-- formula's variables; a column that is defined by cases is one that a row may name
abbrev pub IsDefinition : FormulaParts → Definition → Type 0
IsDefinition f (Comparison form) = IsFormOver (columns_of f) form
IsDefinition f (Cases var first second) =
    (var < f.vars) × IsFormOver (columns_of f) first × IsFormOver (columns_of f) second × (columns_of f < 2 ^ 64 - 1)
IsDefinition f (Disjunction lits) = AreSortedBelow f.vars lits
