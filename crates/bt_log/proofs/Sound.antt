-- What valid steps add follows: an assignment with values that meets the formula makes their clauses true.
use Rattle.std.proofs.Common.{◌≡◌, ℕ, ◌<◌, ◌⊎◌, inl, inr, arith, List, [], ◌∷◌, ◌++◌, length, Bool, true, false, not, map, ap, sym, ◌∙◌, refl, subst, suc}
use Rattle.std.specs.Prelude.{Contains}
use Rattle.std.specs.List.{All, Any, AllByRecursion, AllZip, zip}
use Rattle.std.proofs.lemmas.Bool.{false≢true}
use Rattle.std.proofs.lemmas.List.Elements.{All-nil, All-cons, All-head, All-tail, All-contains, All-push, All-get_or, recursion_from_All}
use Rattle.bt_frac.specs.Ratio.{Ratio, IsLowest}
use Rattle.bt_frac.specs.Rows.{RowParts, IsRow}
use Rattle.bt_frac.specs.Values.{AreValues, RowHolds}
use Rattle.bt_farkas.specs.Laws.{IsWeighted}
use Rattle.bt_farkas.proofs.Sound as rows
use Rattle.bt_cnf.specs.Formulas.{FormulaParts, IsFormula}
use Rattle.bt_cnf.specs.Meeting.{IsTrueUnder, MeetsClause, Meets}
use Rattle.bt_cnf.specs.declared.literal.Lit.{Lit}
use Rattle.bt_log.specs.Laws.{RefutedIsUnmet}
use Rattle.bt_log.specs.Logs.{Step, Lemma, Learnt, clause_of}
use Rattle.bt_cnf.specs.Units.{opposite, IsUnit, clause_at}
use Rattle.bt_log.specs.Units.{UnitsRefute}
use Rattle.bt_log.specs.Validity.{NegatesAtom, IsValidLemma, IsValidLearnt, IsValidStep, AreValid}
use Rattle.bt_cnf.proofs.Signs.{twice}

-- a literal of a variable with two values is true or its opposite is
pub true_or : (a b : Bool) → (a ≡ b) ⊎ (a ≡ not b)
true_or true true = inl refl
true_or true false = inr refl
true_or false true = inr refl
true_or false false = inl refl

not_self : (a b : Bool) → a ≡ b → a ≡ not b → ⊥
not_self true true p q = false≢true (sym q)
not_self true false p q = false≢true (sym p)
not_self false true p q = false≢true p
not_self false false p q = false≢true q

-- the literal is false under the assignment
IsFalseUnder : (ℕ → Bool) → Lit → Type 0
IsFalseUnder assignment l = assignment l.var ≡ not l.positive

not_false : (assignment : ℕ → Bool) (falses : List Lit) (l : Lit) → All (IsFalseUnder assignment) falses → Contains falses l → IsTrueUnder assignment l → ⊥
unfolding IsFalseUnder
not_false assignment falses l all among true_l =
    not_self (assignment l.var) l.positive true_l (All-contains (IsFalseUnder assignment) falses l all among)

-- a unit's literal is true
unit_true : (assignment : ℕ → Bool) (falses clause : List Lit) (l : Lit) → All (IsFalseUnder assignment) falses → MeetsClause assignment clause → IsUnit falses clause l
    → IsTrueUnder assignment l
unit_true assignment falses clause l all met unit =
    elim (subst (λ m. (m ≡ l) ⊎ Contains falses m) met.3 (unit.others met.0 met.1 met.2)) [
      | inl same ↦ subst (IsTrueUnder assignment) same met.4
      | inr among ↦ absurd (not_false assignment falses met.1 all among met.4)
    ]

-- the clauses in turn lead to one that has no true literal
units_fail : (assignment : ℕ → Bool) (falses : List Lit) (clauses : List (List Lit)) → All (IsFalseUnder assignment) falses → All (MeetsClause assignment) clauses
    → UnitsRefute falses clauses → ⊥
unfolding IsFalseUnder
units_fail assignment falses [] all met refuted = refuted
units_fail assignment falses (clause ∷ []) all met refuted =
    let first = All-head (MeetsClause assignment) clause [] met in
    not_false assignment falses first.1 all (subst (Contains falses) first.3 (refuted first.0 first.1 first.2)) first.4
units_fail assignment falses (clause ∷ next ∷ more) all met (l, unit, rest) =
    let true_l = unit_true assignment falses clause l all (All-head (MeetsClause assignment) clause (next ∷ more) met) unit in
    units_fail assignment (opposite l ∷ falses) (next ∷ more)
    (All-cons (IsFalseUnder assignment) (opposite l) falses (true_l ∙ sym (twice l.positive)) all)
    (All-tail (MeetsClause assignment) clause (next ∷ more) met) rest

contains_more : {X : Type 0} (P : X → Type 0) (x : X) (xs : List X) → Any P xs → Any P (x ∷ xs)
contains_more P x xs some = (suc some.0, some.1, omega (arith, some.2), some.3, some.4)

-- a clause has a true literal, or all its literals are false
some_or : (assignment : ℕ → Bool) (lits : List Lit) → MeetsClause assignment lits ⊎ All (IsFalseUnder assignment) lits
unfolding IsFalseUnder
some_or assignment [] = inr (All-nil (IsFalseUnder assignment))
some_or assignment (l ∷ lits) =
    elim (true_or (assignment l.var) l.positive) [
      | inl true_l ↦ inl (0, l, omega arith, refl, true_l)
      | inr false_l ↦ elim (some_or assignment lits) [
        | inl some ↦ inl (contains_more (IsTrueUnder assignment) l lits some)
        | inr all ↦ inr (All-cons (IsFalseUnder assignment) l lits false_l all)
      ]
    ]

hinted : (assignment : ℕ → Bool) (clauses : List (List Lit)) (hints : List ℕ) → All (MeetsClause assignment) clauses → All (λ hint. hint < length clauses) hints
    → All (MeetsClause assignment) (map (clause_at clauses) hints)
hinted assignment clauses [] met all = All-nil (MeetsClause assignment)
hinted assignment clauses (hint ∷ hints) met all =
    All-cons (MeetsClause assignment) (clause_at clauses hint) (map (clause_at clauses) hints)
    (All-get_or (MeetsClause assignment) clauses hint [] (All-head (λ h. h < length clauses) hint hints all) met)
    (hinted assignment clauses hints met (All-tail (λ h. h < length clauses) hint hints all))

learnt_met : (f : FormulaParts) (clauses : List (List Lit)) (lits : List Lit) (hints : List ℕ) (assignment : ℕ → Bool) → All (MeetsClause assignment) clauses
    → IsValidLearnt f clauses lits hints → MeetsClause assignment lits
learnt_met f clauses lits hints assignment met valid =
    elim (some_or assignment lits) [
      | inl some ↦ some
      | inr all ↦ absurd (units_fail assignment lits (map (clause_at clauses) hints) all (hinted assignment clauses hints met valid.numbers) valid.units)
    ]

-- the rows of atoms that are true hold, and are rows
rows_weighted : (f : FormulaParts) (lits : List Lit) (found : List RowParts) (weights : List Ratio) → IsFormula f → AllZip (NegatesAtom f) lits found → AllByRecursion IsLowest weights
    → AllByRecursion IsWeighted (zip found weights)
rows_weighted f [] [] weights is all low = tt
rows_weighted f [] (row ∷ found) weights is all low = absurd all
rows_weighted f (l ∷ lits) [] weights is all low = absurd all
rows_weighted f (l ∷ lits) (row ∷ found) [] is all low = tt
rows_weighted f (l ∷ lits) (row ∷ found) (weight ∷ weights) is all low = (
  record { row = All-contains (λ a. IsRow a.1) f.atoms (l.var, row) is.rows all.0.1; weight = low.0.positive },
  rows_weighted f lits found weights is all.1 low.1,
)

rows_hold : (f : FormulaParts) (lits : List Lit) (found : List RowParts) (weights : List Ratio) (assignment : ℕ → Bool) (values : ℕ → Ratio) → Meets f assignment values
    → AllZip (NegatesAtom f) lits found → AllByRecursion (IsFalseUnder assignment) lits → AllByRecursion (λ r. RowHolds r.0 values) (zip found weights)
unfolding IsFalseUnder
rows_hold f [] [] weights assignment values met all false_all = tt
rows_hold f [] (row ∷ found) weights assignment values met all false_all = absurd all
rows_hold f (l ∷ lits) [] weights assignment values met all false_all = absurd all
rows_hold f (l ∷ lits) (row ∷ found) [] assignment values met all false_all = tt
rows_hold f (l ∷ lits) (row ∷ found) (weight ∷ weights) assignment values met all false_all =
    let is_true : assignment l.var ≡ true = false_all.0 ∙ ap not all.0.0 in (
      All-contains (λ a. assignment a.0 ≡ true → RowHolds a.1 values) f.atoms (l.var, row) met.atoms all.0.1 is_true,
      rows_hold f lits found weights assignment values met all.1 false_all.1,
    )

lemma_met : (f : FormulaParts) (lits : List Lit) (weights : List Ratio) (assignment : ℕ → Bool) (values : ℕ → Ratio) → IsFormula f → AreValues values → Meets f assignment values
    → IsValidLemma f lits weights → MeetsClause assignment lits
lemma_met f lits weights assignment values is are met valid =
    elim (some_or assignment lits) [
      | inl some ↦ some
      | inr all ↦
          absurd (rows.false_sum_fails (zip valid.rows weights) (rows_weighted f lits valid.rows weights is valid.negated (recursion_from_All IsLowest weights valid.fractions))
          valid.false_sum values are
          (rows_hold f lits valid.rows weights assignment values met valid.negated (recursion_from_All (IsFalseUnder assignment) lits all)))
    ]

step_met : (f : FormulaParts) (clauses : List (List Lit)) (step : Step) (assignment : ℕ → Bool) (values : ℕ → Ratio) → IsFormula f → AreValues values → Meets f assignment values
    → All (MeetsClause assignment) clauses → IsValidStep f clauses step → MeetsClause assignment (clause_of step)
step_met f clauses (Lemma lits weights) assignment values is are met all valid = lemma_met f lits weights assignment values is are met valid
step_met f clauses (Learnt lits hints) assignment values is are met all valid = learnt_met f clauses lits hints assignment all valid

last_met : (f : FormulaParts) (clauses : List (List Lit)) (front : List Step) (last : Step) (assignment : ℕ → Bool) (values : ℕ → Ratio) → IsFormula f → AreValues values
    → Meets f assignment values → All (MeetsClause assignment) clauses → AreValid f clauses (front ++ last ∷ []) → MeetsClause assignment (clause_of last)
last_met f clauses [] last assignment values is are met all valid = step_met f clauses last assignment values is are met all valid.0
last_met f clauses (step ∷ front) last assignment values is are met all valid =
    last_met f (clauses ++ clause_of step ∷ []) front last assignment values is are met
    (All-push (MeetsClause assignment) clauses (clause_of step) all (step_met f clauses step assignment values is are met all valid.0)) valid.1

none_in_empty : (P : Lit → Type 0) → Any P [] → ⊥
none_in_empty P some = let inside = some.2 in omega arith

pub refuted_is_unmet : RefutedIsUnmet
refuted_is_unmet f steps is refutes assignment values are met =
    let ends = refutes.ends in
    none_in_empty (IsTrueUnder assignment)
    (subst (MeetsClause assignment) ends.empty
    (last_met f f.clauses ends.front ends.last assignment values is are met met.clauses (subst (AreValid f f.clauses) ends.split refutes.valid)))
