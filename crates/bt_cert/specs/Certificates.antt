-- Certificates: the lines of definitions, and then those of steps, each of which is valid in its turn, the line `end`,
-- and blanks.
use Rattle.std.specs.Prelude.{◌≡◌, ◌≢◌, ℕ, ◌+◌, ◌-◌, ◌<◌, ◌⊎◌, List, [], ◌∷◌, ◌++◌, All, length, map, codes, Result, Ok, Err}
use Rattle.bt_text.specs.Blanks.{IsBlank}
use Rattle.bt_text.specs.Lines.{IsFirstLine, BeginsWithLines, line_feeds}
use Rattle.bt_cnf.specs.Formulas.{FormulaParts}
use Rattle.bt_cnf.specs.declared.literal.Lit.{Lit}
use Rattle.bt_log.specs.Logs.{Step}
use Rattle.bt_extend.specs.Definitions.{IsDefinition}
use Rattle.bt_extend.specs.Extending.{with_definition, extended}
use Rattle.bt_extend.specs.Texts.{definition_text, MayBeWritten}
use Rattle.bt_extend.specs.declared.definition.Definition.{Definition}
use Rattle.bt_extend.specs.declared.definition.Definition.TheVariants.{Comparison, Cases, Disjunction}
use Rattle.bt_log.specs.Refuting.{Refutes, EndsEmpty}
use Rattle.bt_cert.specs.StepLines.{WrittenStep, IsWritten, written_text, step_of, written_clause}
use Rattle.bt_cert.specs.Judging.{IsAccepted, IsWideNowhere, FailsFor, IsWideStep}
use Rattle.bt_cert.specs.declared.fault.CertFault.{CertFault}
use Rattle.bt_cert.specs.declared.fault.CertFault.TheVariants.{CertLine, BadStep, NoVerdict, CertWide, ReadFault, TooLong, Memory}
use Rattle.bt_cert.specs.declared.reading.TheConstants.{FIRST_LINE}
use Rattle.bt_cert.specs.declared.defining.TheConstants.{MOST_DEFINITIONS}

-- the line after the last step
abbrev pub end_line : List ℕ
end_line = codes "end"

-- the steps, as a log has them
abbrev pub log_of : List WrittenStep → List Step
log_of steps = map step_of steps

-- the text is the lines of the steps, the line `end`, and blanks
pub record SpellsLog (text : List ℕ) (steps : List WrittenStep) : Type 0 where
  pub written : All IsWritten steps
  pub blanks : List ℕ
  pub are_blanks : All IsBlank blanks
  pub begins : BeginsWithLines text (map written_text steps ++ end_line ∷ []) blanks

-- the text spells a log that refutes the formula, and the sum of no lemma leaves 128 bits
pub record SpellsRefutation (f : FormulaParts) (text : List ℕ) : Type 0 where
  pub steps : List WrittenStep
  pub spells : SpellsLog text steps
  pub refutes : Refutes f (log_of steps)
  pub fits : All (IsWideNowhere f) steps

-- each step is valid after these clauses and those of the earlier steps, and no sum leaves 128 bits
abbrev pub AreAccepted : FormulaParts → List (List Lit) → List WrittenStep → Type 0
AreAccepted f clauses [] = Unit {0}
AreAccepted f clauses (step ∷ steps) = IsAccepted f clauses step × AreAccepted f (clauses ++ written_clause step ∷ []) steps

-- the clauses of the formula and of the steps
abbrev pub clauses_after : FormulaParts → List WrittenStep → List (List Lit)
clauses_after f steps = f.clauses ++ map written_clause steps

-- the steps may be written, and each is valid in its turn
pub record AreRight (f : FormulaParts) (steps : List WrittenStep) : Type 0 where
  pub written : All IsWritten steps
  pub accepted : AreAccepted f f.clauses steps

-- the text begins with the lines of steps, each of which is valid in its turn; then this line comes, and this
-- follows
pub record ComesTo (f : FormulaParts) (text : List ℕ) (steps : List WrittenStep) (next after : List ℕ) : Type 0 where
  pub right : AreRight f steps
  pub rest : List ℕ
  pub begins : BeginsWithLines text (map written_text steps) rest
  pub first : IsFirstLine rest next after

-- the number of the line after the lines of steps, of which the first has this number
abbrev pub line_after : ℕ → List WrittenStep → ℕ
line_after first steps = first + length steps

-- the line is that of no step
abbrev pub SpellsNoStep : List ℕ → Type 0
SpellsNoStep line = (step : WrittenStep) → IsWritten step → line ≢ written_text step

-- the text is blanks, and then a byte that isn't
pub record HasByteAfter (text blanks : List ℕ) : Type 0 where
  pub are_blanks : All IsBlank blanks
  pub byte : ℕ
  pub rest : List ℕ
  pub text_is : text ≡ blanks ++ byte ∷ rest
  pub other : IsBlank byte → ⊥

-- after valid steps this is the number of a line that is neither of a step nor `end`, also where the text ends
pub record StopsAtLine (first : ℕ) (f : FormulaParts) (text : List ℕ) (line : ℕ) : Type 0 where
  pub steps : List WrittenStep
  pub next : List ℕ
  pub after : List ℕ
  pub comes : ComesTo f text steps next after
  pub no_step : SpellsNoStep next
  pub no_end : next ≢ end_line
  pub number : line ≡ line_after first steps

-- after valid steps, of which the last adds the empty clause, and `end`, a byte stands on this line that isn't blank
pub record GoesOnAtLine (first : ℕ) (f : FormulaParts) (text : List ℕ) (line : ℕ) : Type 0 where
  pub steps : List WrittenStep
  pub after : List ℕ
  pub comes : ComesTo f text steps end_line after
  pub ends : EndsEmpty (log_of steps)
  pub blanks : List ℕ
  pub byte : HasByteAfter after blanks
  pub number : line ≡ line_after first steps + 1 + line_feeds blanks

-- after valid steps a step comes on this line of which this holds, with the clauses that stand before it
pub record MeetsStep (first : ℕ) (f : FormulaParts) (text : List ℕ) (line : ℕ) (P : List (List Lit) → WrittenStep → Type 0) : Type 0 where
  pub steps : List WrittenStep
  pub step : WrittenStep
  pub after : List ℕ
  pub is_written : IsWritten step
  pub comes : ComesTo f text steps (written_text step) after
  pub number : line ≡ line_after first steps
  pub holds : P (clauses_after f steps) step

-- after valid steps, of which the last doesn't add the empty clause, `end` comes
pub record EndsOpen (f : FormulaParts) (text : List ℕ) : Type 0 where
  pub steps : List WrittenStep
  pub after : List ℕ
  pub comes : ComesTo f text steps end_line after
  pub open_end : EndsEmpty (log_of steps) → ⊥

-- the right answer to a text of steps, whose first line has this number: it spells a log that refutes the formula; or
-- this comes first in it for which it doesn't
abbrev pub AreStepsRead : ℕ → FormulaParts → List ℕ → Result (Unit {0}) CertFault → Type 0
AreStepsRead first f text (Ok done) = SpellsRefutation f text
AreStepsRead first f text (Err (CertLine line)) = StopsAtLine first f text line ⊎ GoesOnAtLine first f text line
AreStepsRead first f text (Err (BadStep line cause)) = MeetsStep first f text line (λ clauses step. FailsFor f clauses step cause)
AreStepsRead first f text (Err NoVerdict) = EndsOpen f text
AreStepsRead first f text (Err (CertWide line row column)) =
    MeetsStep first f text line (λ clauses step. IsWideStep f step (record { row = row; column = column }))
AreStepsRead first f text (Err ReadFault) = ⊥
AreStepsRead first f text (Err TooLong) = ⊥
AreStepsRead first f text (Err Memory) = ⊥

-- the definition is of a variable
abbrev pub IsOfVariable : Definition → Type 0
IsOfVariable (Comparison form) = ⊥
IsOfVariable (Cases var first second) = ⊥
IsOfVariable (Disjunction lits) = Unit {0}

-- the definition may stand in a certificate where this is the formula so far: it may be written and may extend the
-- formula, and where the formula has no rows, it is of a variable
pub record MayStand (f : FormulaParts) (d : Definition) : Type 0 where
  pub written : MayBeWritten d
  pub defines : IsDefinition f d
  pub alone : f.atoms ≡ [] → IsOfVariable d

-- the line of this definition, which may stand there, comes first in the text, and this follows
abbrev pub ComesFirst : FormulaParts → List ℕ → Definition → List ℕ → Type 0
ComesFirst f text d after = MayStand f d × IsFirstLine text (definition_text d) after

-- the line of no definition that may stand there comes first in the text
abbrev pub NoneComesFirst : FormulaParts → List ℕ → Type 0
NoneComesFirst f text = (d : Definition) (after : List ℕ) → ComesFirst f text d after → ⊥

-- the lines of these definitions come first in the text, each over the formula with those before it, and then this
-- follows: no other comes, or so many came as may
abbrev pub AreDefined : ℕ → FormulaParts → List ℕ → List Definition → List ℕ → Type 0
AreDefined most f text [] rest = (rest ≡ text) × ((most ≡ 0) ⊎ NoneComesFirst f text)
AreDefined most f text (d ∷ ds) rest =
    (0 < most) × (after : List ℕ) × ComesFirst f text d after × AreDefined (most - 1) (with_definition f d) after ds rest

-- the right answer to a text: definitions come first, and then the right answer to steps over the formula that they
-- extend, whose lines go on behind those of the definitions
pub record IsCertRead (f : FormulaParts) (text : List ℕ) (answer : Result (Unit {0}) CertFault) : Type 0 where
  pub definitions : List Definition
  pub rest : List ℕ
  pub defined : AreDefined MOST_DEFINITIONS f text definitions rest
  pub read : AreStepsRead (FIRST_LINE + length definitions) (extended f definitions) rest answer

-- the text is a certificate: it spells definitions, and a log that refutes the formula that they extend
abbrev pub IsCertificate : FormulaParts → List ℕ → Type 0
IsCertificate f text = IsCertRead f text (Ok tt)
