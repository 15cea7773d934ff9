-- How far the definitions at the front of a certificate were read.
use Rattle.std.specs.Prelude.{◌≡◌, ◌≢◌, ℕ, ◌+◌, ◌<◌, ◌≤◌, Bool, true, false, List, [], ◌∷◌, ◌++◌, length, Option, Some, None, Result, Ok, Err}
use Rattle.std.specs.List.{flat_map}
use Rattle.std.specs.Io.KnownBytes.{Consumes}
use Rattle.bt_text.specs.Lines.{Lacks}
use Rattle.bt_io.specs.Bytes.{IsAllOf, Takes, TakesAtMost}
use Rattle.bt_io.specs.Passages.{Passage, HasFault}
use Rattle.bt_cnf.specs.Formulas.{FormulaParts}
use Rattle.bt_extend.specs.Definitions.{IsDefinition}
use Rattle.bt_extend.specs.Extending.{with_definition, extended}
use Rattle.bt_extend.specs.Texts.{definition_text, definition_line}
use Rattle.bt_extend.specs.declared.definition.Definition.{Definition}
use Rattle.bt_cert.specs.Certificates.{IsOfVariable, MayStand, NoneComesFirst, AreDefined}
use Rattle.bt_cert.specs.declared.defining.TheConstants.{MOST_DEFINITIONS}
use Rattle.bt_cert.specs.declared.fault.CertFault.{CertFault}
use Rattle.bt_cert.specs.declared.fault.CertFault.TheVariants.{ReadFault, TooLong, Memory}

-- the bytes of a line that goes on, or what was read behind the definitions; how many definitions came; and whether a
-- line came that is of none
pub record DefiningParts : Type 0 where
  pub part : List ℕ
  pub count : ℕ
  pub stopped : Bool

-- one more definition may come
pub record GoesOn (p : DefiningParts) : Type 0 where
  pub stands : p.stopped ≡ false
  pub few : p.count < MOST_DEFINITIONS

-- each definition may stand in its turn
abbrev pub MayAllStand : FormulaParts → List Definition → Type 0
MayAllStand f [] = Unit {0}
MayAllStand f (d ∷ ds) = MayStand f d × MayAllStand (with_definition f d) ds

-- what was read of a text is the lines of definitions, by which the formula is extended, and a part of a line that goes
-- on; or what follows them, in which no other comes first, whatever follows
pub record HasDefined (f : FormulaParts) (text : List ℕ) (now : FormulaParts) (p : DefiningParts) : Type 0 where
  pub definitions : List Definition
  pub stand : MayAllStand f definitions
  pub few : length definitions ≤ MOST_DEFINITIONS
  pub text_is : text ≡ flat_map definition_line definitions ++ p.part
  pub formula : now ≡ extended f definitions
  pub count : p.count ≡ length definitions
  pub goes_on : GoesOn p → Lacks 10 p.part
  pub stops : p.stopped ≡ true → (more : List ℕ) → NoneComesFirst now (p.part ++ more)

-- after each text that was read this text was read too
abbrev pub DefinesOn : FormulaParts → DefiningParts → List ℕ → FormulaParts → DefiningParts → Type 0
DefinesOn before old piece after new = (f : FormulaParts) (text : List ℕ) → HasDefined f text before old → HasDefined f (text ++ piece) after new

-- these are the definitions at the front of the text, whatever follows, by which the formula is extended
pub record ReachesSteps (f : FormulaParts) (text : List ℕ) (now : FormulaParts) (p : DefiningParts) : Type 0 where
  pub definitions : List Definition
  pub defined : (more : List ℕ) → AreDefined MOST_DEFINITIONS f (text ++ more) definitions (p.part ++ more)
  pub formula : now ≡ extended f definitions
  pub count : p.count ≡ length definitions

-- these are the definitions at the front of the text, where nothing follows
pub record IsDefined (f : FormulaParts) (text : List ℕ) (now : FormulaParts) (p : DefiningParts) : Type 0 where
  pub definitions : List Definition
  pub defined : AreDefined MOST_DEFINITIONS f text definitions p.part
  pub formula : now ≡ extended f definitions
  pub count : p.count ≡ length definitions

-- a definition that may be written may stand where this is the formula so far
abbrev pub MaySo : FormulaParts → Definition → Type 0
MaySo f d = IsDefinition f d × (f.atoms ≡ [] → IsOfVariable d)

-- the line is that of no definition that may stand there
abbrev pub DefinesNothing : FormulaParts → List ℕ → Type 0
DefinesNothing f line = (d : Definition) → MayStand f d → line ≢ definition_text d

-- the line is that of a definition that may stand there, by which the formula is extended; or it is of none
abbrev pub DefinesLine : FormulaParts → List ℕ → FormulaParts → Bool → Type 0
DefinesLine before line after true = (d : Definition) × MayStand before d × (line ≡ definition_text d) × (after ≡ with_definition before d)
DefinesLine before line after false = DefinesNothing before line × (after ≡ before)

-- the same of a line that goes on with these bytes
abbrev pub TakesLine : FormulaParts → DefiningParts → List ℕ → FormulaParts → DefiningParts → Bool → Type 0
TakesLine before old line after new true =
    DefinesLine before (old.part ++ line) after true × (new ≡ record old { part = []; count = old.count + 1 })
TakesLine before old line after new false = DefinesLine before (old.part ++ line) after false × (new ≡ old)

-- the same of a line that doesn't go on
abbrev pub TakesLastLine : FormulaParts → DefiningParts → FormulaParts → DefiningParts → Type 0
TakesLastLine before old after new = (defines : Bool) × TakesLine before old [] after new defines

-- so many bytes of the source were read on, and the definitions are read
pub record ReadsToSteps (limit taken : ℕ) (source : Passage) (before : FormulaParts) (old : DefiningParts) (after : FormulaParts) (new : DefiningParts) : Type 0 where
  pub bytes : List ℕ
  pub consumed : Consumes source.before source.after bytes
  pub many : length bytes ≡ taken
  pub few : taken ≤ limit
  pub reads : (f : FormulaParts) (text : List ℕ) → HasDefined f text before old → ReachesSteps f (text ++ bytes) after new

-- all that the source had left was read on, no more than the limit, and the definitions are read
pub record ReadsToEnd (limit : ℕ) (source : Passage) (before : FormulaParts) (old : DefiningParts) (after : FormulaParts) (new : DefiningParts) : Type 0 where
  pub bytes : List ℕ
  pub all : IsAllOf source bytes
  pub few : length bytes ≤ limit
  pub reads : (f : FormulaParts) (text : List ℕ) → HasDefined f text before old → IsDefined f (text ++ bytes) after new

-- either; or the source failed, which its count of faults shows, one byte past the limit was taken, or memory ran out
abbrev pub ReadsDefinitions : ℕ → Passage → FormulaParts → DefiningParts → FormulaParts → DefiningParts → Result (Option ℕ) CertFault → Type 0
ReadsDefinitions limit source before old after new (Ok (Some taken)) = ReadsToSteps limit taken source before old after new
ReadsDefinitions limit source before old after new (Ok None) = ReadsToEnd limit source before old after new
ReadsDefinitions limit source before old after new (Err ReadFault) = HasFault source × TakesAtMost source limit
ReadsDefinitions limit source before old after new (Err TooLong) = Takes source (limit + 1)
ReadsDefinitions limit source before old after new (Err Memory) = TakesAtMost source limit
ReadsDefinitions limit source before old after new (Err other) = ⊥
