-- How the judging of a lemma goes: the rows of its atoms, and their weights.
use Rattle.std.specs.Prelude.{ℕ, ◌<◌, Bool, true, false, List, length, map, Option, None, Some, slice_index_or, Result, Ok, Err}
use Rattle.bt_frac.specs.Ratio.{Ratio}
use Rattle.bt_frac.specs.Rows.{RowParts}
use Rattle.bt_farkas.specs.Farkas.{IsFirstWide, IsWidePlace}
use Rattle.bt_farkas.specs.WeightedRows.{empty_row, picked}
use Rattle.bt_farkas.specs.declared.places.Place.{Place}
use Rattle.bt_farkas.specs.declared.wide.WideAt.{WideAt}
use Rattle.std.specs.List.{All, zip}
use Rattle.bt_cnf.specs.Formulas.{FormulaParts}
use Rattle.bt_cnf.specs.declared.literal.Lit.{Lit}
use Rattle.bt_log.specs.Validity.{NegatesAtom, IsValidLemma}
use Rattle.bt_cert.specs.Judging.{Negate, IsWeighed, FailsLemma}
use Rattle.bt_cert.specs.declared.fault.StepFault.{StepFault}
use Rattle.bt_cert.specs.declared.fault.StepFault.TheVariants as fault

-- the rows of the atoms
abbrev pub rows_of : FormulaParts → List RowParts
rows_of f = map (λ a. a.1) f.atoms

-- the literal is the negation of the atom whose row is at this place, or of none
abbrev pub IsNegatedRow : FormulaParts → Lit → Option ℕ → Type 0
IsNegatedRow f l (Some place) =
    (place < length (rows_of f)) × NegatesAtom f l (slice_index_or (rows_of f) place empty_row)
IsNegatedRow f l None = (row : RowParts) → NegatesAtom f l row → ⊥

-- these are places of rows, whose atoms the literals negate; or the literals don't negate atoms
abbrev pub IsPicked : FormulaParts → List Lit → List ℕ → Bool → Type 0
IsPicked f lits picks true = All (λ pick. pick < length (rows_of f)) picks × Negate f lits (picked (rows_of f) picks)
IsPicked f lits picks false = (rows : List RowParts) → Negate f lits rows → ⊥

-- the sum of a lemma, whose literals and weights are right, first leaves 128 bits there
abbrev pub IsWideLemma : FormulaParts → List Lit → List Ratio → WideAt → Type 0
IsWideLemma f lits weights at = (w : IsWeighed f lits weights) × IsFirstWide (zip w.rows weights) at

-- the sum of such a lemma leaves 128 bits nowhere
abbrev pub IsNowhereWide : FormulaParts → List Lit → List Ratio → Type 0
IsNowhereWide f lits weights =
    (w : IsWeighed f lits weights) (row : ℕ) (place : Place) → IsWidePlace (zip w.rows weights) row place → ⊥

-- a lemma is valid and its sum leaves 128 bits nowhere, or it fails for a cause, or its sum leaves 128 bits
abbrev pub JudgesLemma : FormulaParts → List Lit → List Ratio → Result (Unit {0}) StepFault → Type 0
JudgesLemma f lits weights (Ok done) = IsValidLemma f lits weights × IsNowhereWide f lits weights
JudgesLemma f lits weights (Err (fault.Fails cause)) = FailsLemma f lits weights cause
JudgesLemma f lits weights (Err (fault.Wide at)) = IsWideLemma f lits weights at
JudgesLemma f lits weights (Err fault.Memory) = Unit {0}
