-- What is judged of one step: that it is valid, or the first cause for which it isn't.
use Rattle.std.specs.Prelude.{◌≡◌, ℕ, ◌-◌, ◌<◌, List, length, map, false, Ok}
use Rattle.std.specs.List.{All, AllZip, zip}
use Rattle.bt_frac.specs.Ratio.{Ratio}
use Rattle.bt_frac.specs.Rows.{RowParts}
use Rattle.bt_farkas.specs.FalseSums.{MayWeigh}
use Rattle.bt_farkas.specs.Farkas.{IsFarkas, IsFirstWide, IsWidePlace}
use Rattle.bt_farkas.specs.declared.places.Place.{Place}
use Rattle.bt_farkas.specs.declared.wide.WideAt.{WideAt}
use Rattle.bt_cnf.specs.Formulas.{FormulaParts, LitsBelow}
use Rattle.bt_cnf.specs.declared.literal.Lit.{Lit}
use Rattle.bt_cnf.specs.Units.{HasNoBothSigns, clause_at}
use Rattle.bt_log.specs.Units.{UnitsRefute}
use Rattle.bt_log.specs.Validity.{NegatesAtom, IsValidStep}
use Rattle.bt_cert.specs.StepLines.{WrittenStep, Lemma, Learnt, lit_of, step_of}
use Rattle.bt_cert.specs.declared.fault.Cause.{Cause}
use Rattle.bt_cert.specs.declared.fault.Cause.TheVariants as cause

-- the literals are the negations of the atoms that have these rows
abbrev pub Negate : FormulaParts → List Lit → List RowParts → Type 0
Negate f lits rows = AllZip (NegatesAtom f) lits rows

-- each weight belongs to a literal, and only an equation has a negative one
pub record MayWeighRows (rows : List RowParts) (weights : List Ratio) : Type 0 where
  pub counted : length weights ≡ length rows
  pub weights_fit : All MayWeigh (zip rows weights)

-- a lemma whose literals and weights are right, with the rows of its atoms
pub record IsWeighed (f : FormulaParts) (lits : List Lit) (weights : List Ratio) : Type 0 where
  pub rows : List RowParts
  pub negated : Negate f lits rows
  pub weighed : MayWeighRows rows weights

-- the first cause for which a lemma isn't valid
abbrev pub FailsLemma : FormulaParts → List Lit → List Ratio → Cause → Type 0
FailsLemma f lits weights cause.Literal = (rows : List RowParts) → Negate f lits rows → ⊥
FailsLemma f lits weights cause.Weight = (rows : List RowParts) × Negate f lits rows × (MayWeighRows rows weights → ⊥)
FailsLemma f lits weights cause.Sum = (w : IsWeighed f lits weights) × IsFarkas (zip w.rows weights) (Ok false)
FailsLemma f lits weights cause.Hint = ⊥
FailsLemma f lits weights cause.Unit = ⊥

-- the literals of a learnt clause are of variables, none with both signs
pub record AreLearntLits (f : FormulaParts) (lits : List Lit) : Type 0 where
  pub variables : LitsBelow f.vars lits
  pub signs : HasNoBothSigns lits

-- the hints are of clauses before the step
abbrev pub AreHints : List (List Lit) → List ℕ → Type 0
AreHints clauses hints = All (λ hint. hint < length clauses) hints

-- the first cause for which a learnt clause isn't valid
abbrev pub FailsLearnt : FormulaParts → List (List Lit) → List Lit → List ℕ → Cause → Type 0
FailsLearnt f clauses lits hints cause.Literal = AreLearntLits f lits → ⊥
FailsLearnt f clauses lits hints cause.Weight = ⊥
FailsLearnt f clauses lits hints cause.Sum = ⊥
FailsLearnt f clauses lits hints cause.Hint = AreLearntLits f lits × (AreHints clauses hints → ⊥)
FailsLearnt f clauses lits hints cause.Unit =
    AreLearntLits f lits × AreHints clauses hints × (UnitsRefute lits (map (clause_at clauses) hints) → ⊥)

-- the first cause for which a written step isn't valid after these clauses
abbrev pub FailsFor : FormulaParts → List (List Lit) → WrittenStep → Cause → Type 0
FailsFor f clauses (Lemma lits weights) cause = FailsLemma f (map lit_of lits) weights cause
FailsFor f clauses (Learnt lits hints) cause = FailsLearnt f clauses (map lit_of lits) (map (λ hint. hint - 1) hints) cause

-- the sum of a lemma, whose literals and weights are right, first leaves 128 bits there
abbrev pub IsWideStep : FormulaParts → WrittenStep → WideAt → Type 0
IsWideStep f (Lemma lits weights) at =
    (w : IsWeighed f (map lit_of lits) weights) × IsFirstWide (zip w.rows weights) at
IsWideStep f (Learnt lits hints) at = ⊥

-- the sum of a lemma, whose literals and weights are right, leaves 128 bits nowhere
abbrev pub IsWideNowhere : FormulaParts → WrittenStep → Type 0
IsWideNowhere f (Lemma lits weights) =
    (w : IsWeighed f (map lit_of lits) weights) (row : ℕ) (place : Place) → IsWidePlace (zip w.rows weights) row place → ⊥
IsWideNowhere f (Learnt lits hints) = Unit {0}

-- the step is valid after these clauses, and no sum leaves 128 bits
abbrev pub IsAccepted : FormulaParts → List (List Lit) → WrittenStep → Type 0
IsAccepted f clauses written = IsValidStep f clauses (step_of written) × IsWideNowhere f written
