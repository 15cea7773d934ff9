-- Valid steps.
use Rattle.std.specs.Prelude.{◌≡◌, ℕ, ◌<◌, List, [], ◌∷◌, ◌++◌, length, map, false, Contains}
use Rattle.std.specs.List.{All, AllZip, zip}
use Rattle.bt_frac.specs.Ratio.{Ratio, IsLowest}
use Rattle.bt_frac.specs.Rows.{RowParts}
use Rattle.bt_farkas.specs.FalseSums.{IsFalseSum}
use Rattle.bt_cnf.specs.Formulas.{FormulaParts, LitsBelow}
use Rattle.bt_cnf.specs.declared.literal.Lit.{Lit}
use Rattle.bt_log.specs.Logs.{Step, Lemma, Learnt, clause_of}
use Rattle.bt_cnf.specs.Units.{HasNoBothSigns, clause_at}
use Rattle.bt_log.specs.Units.{UnitsRefute}

-- the literal is the negation of the atom that has this row
abbrev pub NegatesAtom : FormulaParts → Lit → RowParts → Type 0
NegatesAtom f l row = (l.positive ≡ false) × Contains f.atoms (l.var, row)

-- the literals are negations of atoms, whose rows with the weights, one for each, add up to a false sum
pub record IsValidLemma (f : FormulaParts) (lits : List Lit) (weights : List Ratio) : Type 0 where
  pub rows : List RowParts
  pub negated : AllZip (NegatesAtom f) lits rows
  pub counted : length weights ≡ length lits
  pub fractions : All IsLowest weights
  pub false_sum : IsFalseSum (zip rows weights)

-- the literals are of variables, none with both signs; the hints are of clauses, which refute in turn that all
-- literals are false
pub record IsValidLearnt (f : FormulaParts) (clauses : List (List Lit)) (lits : List Lit) (hints : List ℕ) : Type 0 where
  pub variables : LitsBelow f.vars lits
  pub signs : HasNoBothSigns lits
  pub numbers : All (λ hint. hint < length clauses) hints
  pub units : UnitsRefute lits (map (clause_at clauses) hints)

-- the step is valid after these clauses
abbrev pub IsValidStep : FormulaParts → List (List Lit) → Step → Type 0
IsValidStep f clauses (Lemma lits weights) = IsValidLemma f lits weights
IsValidStep f clauses (Learnt lits hints) = IsValidLearnt f clauses lits hints

-- each step is valid after these clauses and those of the earlier steps
abbrev pub AreValid : FormulaParts → List (List Lit) → List Step → Type 0
AreValid f clauses [] = Unit {0}
AreValid f clauses (step ∷ steps) = IsValidStep f clauses step × AreValid f (clauses ++ clause_of step ∷ []) steps
