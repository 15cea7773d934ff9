-- How the judging of a learnt clause goes: what is assumed, and what hinted clauses make of it.
use Rattle.std.specs.Prelude.{◌≡◌, ℕ, ◌-◌, ◌↔◌, Bool, true, false, Option, List, map, IsTrue, Result, Ok, Err}
use Rattle.std.specs.List.{All}
use Rattle.bt_cnf.specs.Formulas.{LitsBelow, IsFormula}
use Rattle.bt_cnf.specs.declared.literal.Lit.{Lit}
use Rattle.bt_cnf.specs.Units.{HasNoBothSigns, clause_at}
use Rattle.bt_log.specs.Units.{UnitsRefute}
use Rattle.bt_log.specs.Validity.{IsValidLearnt}
use Rattle.bt_cert.specs.inner.Checking.{Checking}
use Rattle.bt_cert.specs.Judging.{FailsLearnt}
use Rattle.bt_cert.specs.declared.fault.StepFault.{StepFault}
use Rattle.bt_cert.specs.declared.fault.StepFault.TheVariants as fault
use Rattle.bt_cert.specs.inner.Assuming.{IsUnitIn, HasNoUnit, Tells, with_value}

-- the formula is one, and the literals of all clauses are of variables of it
pub record IsSound (known : Checking) : Type 0 where
  pub formula : IsFormula known.formula
  pub clauses : All (LitsBelow known.formula.vars) known.clauses

-- the places that these numbers of a text name
abbrev pub places_of : List ℕ → List ℕ
places_of numbers = map (λ number. number - 1) numbers

-- the hinted clauses
abbrev pub hinted : Checking → List ℕ → List (List Lit)
hinted known hints = map (clause_at known.clauses) (places_of hints)

-- each literal was made false, and no variable has both signs; or one has
abbrev pub IsAssumed : List Lit → List (Option Bool) → Bool → Type 0
IsAssumed lits values true = HasNoBothSigns lits × Tells values lits
IsAssumed lits values false = HasNoBothSigns lits → ⊥

-- the clause was a unit, whose literal was made true; or it has none
abbrev pub IsPropagated : List (Option Bool) → List Lit → List (Option Bool) → Bool → Type 0
IsPropagated old clause new true = (l : Lit) × IsUnitIn old clause l × (new ≡ with_value old l.var l.positive)
IsPropagated old clause new false = HasNoUnit old clause

-- whether the clauses refute that the literals are false that the values tell of
abbrev pub IsRefuted : List (Option Bool) → List (List Lit) → Bool → Type 0
IsRefuted values clauses refuted =
    (falses : List Lit) → Tells values falses → IsTrue refuted ↔ UnitsRefute falses clauses

-- a learnt clause is valid, or fails for a cause
abbrev pub JudgesLearnt : Checking → List Lit → List ℕ → Result (Unit {0}) StepFault → Type 0
JudgesLearnt known lits hints (Ok done) = IsValidLearnt known.formula known.clauses lits hints
JudgesLearnt known lits hints (Err (fault.Fails cause)) = FailsLearnt known.formula known.clauses lits hints cause
JudgesLearnt known lits hints (Err (fault.Wide at)) = ⊥
JudgesLearnt known lits hints (Err fault.Memory) = Unit {0}
