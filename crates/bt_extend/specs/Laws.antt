-- That definitions never make a formula false.
use Rattle.std.specs.Prelude.{◌≡◌, ◌↔◌, ℕ, ◌<◌, Bool, List, Option, Some}
use Rattle.bt_frac.specs.Ratio.{Ratio}
use Rattle.bt_frac.specs.Values.{AreValues}
use Rattle.bt_cnf.specs.Formulas.{FormulaParts, IsFormula}
use Rattle.bt_cnf.specs.Meeting.{Meets}
use Rattle.bt_log.specs.Laws.{IsUnmet}
use Rattle.bt_log.specs.Logs.{Step}
use Rattle.bt_log.specs.Refuting.{Refutes}
use Rattle.bt_extend.specs.Definitions.{columns_of}
use Rattle.bt_extend.specs.Extending.{extended, AreDefinitions}
use Rattle.bt_extend.specs.Texts.{definition_text, MayBeWritten, IsDefinitionRead}
use Rattle.bt_extend.specs.declared.definition.Definition.{Definition}

-- two assignments with values are the same on the variables and the columns of a formula
pub record SameOn (f : FormulaParts) (assignment other : ℕ → Bool) (values others : ℕ → Ratio) : Type 0 where
  pub variables : (var : ℕ) → var < f.vars → other var ≡ assignment var
  pub columns : (column : ℕ) → column < columns_of f → others column ≡ values column

-- an assignment with values that meets a further formula, and is this one on the variables and columns of the formula
pub record GoesOn (f further : FormulaParts) (assignment : ℕ → Bool) (values : ℕ → Ratio) : Type 0 where
  pub other : ℕ → Bool
  pub others : ℕ → Ratio
  pub are_values : AreValues others
  pub same : SameOn f assignment other values others
  pub meets : Meets further other others

-- what meets a formula goes on to meet the formula that definitions extend: whatever they say, there is a value for
-- each column and a truth for each variable that they define
abbrev pub MeetingGoesOn : Type 0
MeetingGoesOn = (f : FormulaParts) (ds : List Definition) (assignment : ℕ → Bool) (values : ℕ → Ratio) → IsFormula f → AreDefinitions f ds
    → AreValues values → Meets f assignment values → GoesOn f (extended f ds) assignment values

-- what meets the extended formula, cut to the variables and columns of the formula, meets the formula
abbrev pub CutMeets : Type 0
CutMeets = (f : FormulaParts) (ds : List Definition) (assignment other : ℕ → Bool) (values others : ℕ → Ratio) → IsFormula f
    → Meets (extended f ds) assignment values → SameOn f assignment other values others → Meets f other others

-- some assignment with values, which may be any fractions, meets the formula
abbrev pub CanBeMet : FormulaParts → Type 0
CanBeMet f = (assignment : ℕ → Bool) × (values : ℕ → Ratio) × AreValues values × Meets f assignment values

-- definitions are conservative: a formula can be met exactly where the extended formula can
abbrev pub DefinitionsAreConservative : Type 0
DefinitionsAreConservative = (f : FormulaParts) (ds : List Definition) → IsFormula f → AreDefinitions f ds → CanBeMet f ↔ CanBeMet (extended f ds)

-- the formula that definitions extend is a formula
abbrev pub ExtendedIsFormula : Type 0
ExtendedIsFormula = (f : FormulaParts) (ds : List Definition) → IsFormula f → AreDefinitions f ds → IsFormula (extended f ds)

-- where a log refutes the extended formula, nothing meets the formula
abbrev pub RefutedExtensionIsUnmet : Type 0
RefutedExtensionIsUnmet = (f : FormulaParts) (ds : List Definition) (steps : List Step) → IsFormula f → AreDefinitions f ds
    → Refutes (extended f ds) steps → IsUnmet f

-- what is written of a definition, without the line feed, is read as that definition
abbrev pub PrintedDefinitionIsRead : Type 0
PrintedDefinitionIsRead = (d : Definition) → MayBeWritten d → (read : Option Definition) → IsDefinitionRead (definition_text d) read → read ≡ Some d
