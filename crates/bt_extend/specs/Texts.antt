-- The lines of definitions.
use Rattle.std.specs.Prelude.{◌≡◌, ◌≢◌, ℕ, ◌+◌, ◌<◌, ◌^◌, All, List, ◌∷◌, [], ◌++◌, flat_map, codes, cond, Option, Some, None}
use Rattle.std.specs.Fmt.{decimal}
use Rattle.bt_frac.specs.Ratio.{Ratio}
use Rattle.bt_frac.specs.Texts.{frac_text}
use Rattle.bt_log.specs.LogText.{words}
use Rattle.bt_extend.specs.Forms.{FormParts, IsForm}
use Rattle.bt_extend.specs.declared.definition.NamedLit.{NamedLit}
use Rattle.bt_extend.specs.declared.definition.Definition.{Definition}
use Rattle.bt_extend.specs.declared.definition.Definition.TheVariants.{Comparison, Cases, Disjunction}

-- a term: its coefficient, and after a space the number of its column, from 1 on
abbrev pub term_text : ℕ × Ratio → List ℕ
term_text t = frac_text t.1 ++ 32 ∷ decimal (t.0 + 1)

-- a form: its number, its terms, and 0, each with a space in front
abbrev pub form_text : FormParts → List ℕ
form_text form = 32 ∷ (frac_text form.constant ++ (words term_text form.terms ++ codes " 0"))

-- a literal: the number of its variable, from 1 on, with a minus where it is negative
abbrev pub named_text : NamedLit → List ℕ
named_text l = cond l.positive (decimal (l.var + 1)) (45 ∷ decimal (l.var + 1))

-- a definition: `p` and its form; or `c`, the number of the variable, and both forms; or `v`, the literals, and 0
abbrev pub definition_text : Definition → List ℕ
definition_text (Comparison form) = codes "p" ++ form_text form
definition_text (Cases var first second) = codes "c " ++ (decimal (var + 1) ++ (form_text first ++ form_text second))
definition_text (Disjunction lits) = codes "v" ++ (words named_text lits ++ codes " 0")

-- the line of a definition
abbrev pub definition_line : Definition → List ℕ
definition_line d = definition_text d ++ 10 ∷ []

-- the lines of definitions
abbrev pub definitions_text : List Definition → List ℕ
definitions_text definitions = flat_map definition_line definitions

-- the number of a variable, from 1 on, has at most 18 digits
abbrev pub IsNumbered : ℕ → Type 0
IsNumbered var = var + 1 < 10 ^ 18

-- the definition may be written: its forms are forms, and the numbers of its variables have at most 18 digits
abbrev pub MayBeWritten : Definition → Type 0
MayBeWritten (Comparison form) = IsForm form
MayBeWritten (Cases var first second) = IsNumbered var × IsForm first × IsForm second
MayBeWritten (Disjunction lits) = All (λ l. IsNumbered l.var) lits

-- the line is that of the definition, or of none
abbrev pub IsDefinitionRead : List ℕ → Option Definition → Type 0
IsDefinitionRead line (Some d) = MayBeWritten d × (line ≡ definition_text d)
IsDefinitionRead line None = (d : Definition) → MayBeWritten d → line ≢ definition_text d
