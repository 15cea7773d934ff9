-- The valid steps over a formula with few variables and clauses may be written.
use Rattle.std.proofs.Common.{ℕ, ◌<◌, ◌+◌, ◌*◌, ◌^◌, List, [], ◌∷◌, ◌++◌, length, map, arith, length-append}
use Rattle.std.specs.List.{All}
use Rattle.std.proofs.lemmas.List.Elements.{All-nil, All-cons, All-map, All-weaker}
use Rattle.bt_cnf.specs.Formulas.{FormulaParts, IsFormula, LitsBelow}
use Rattle.bt_cnf.specs.declared.literal.Lit.{Lit}
use Rattle.bt_log.specs.Logs.{Step, Lemma, Learnt, clause_of}
use Rattle.bt_log.specs.Validity.{IsValidStep, AreValid}
use Rattle.bt_log.proofs.NegatedAtoms.{negated_below}
use Rattle.bt_extend.specs.Words.{IsNumber, IsWrittenLit}
use Rattle.bt_cert.specs.Laws.{written_lit, MayBeWritten}

number : (n : ℕ) → n < 2 * 10 ^ 17 → IsNumber (n + 1)
number n l = record { positive = omega arith; short = omega (arith, l) }

module _ (f : FormulaParts) (is : IsFormula f) (small : f.vars < 10 ^ 17) where
  lits_written : (lits : List Lit) → LitsBelow f.vars lits → All IsWrittenLit (map written_lit lits)
  lits_written lits h = All-map IsWrittenLit written_lit lits (All-weaker (λ l. l.var < f.vars) (λ l. IsWrittenLit (written_lit l)) (λ l b. number l.var (omega (arith, b, small))) lits h)

  hints_written : (hints : List ℕ) (m : ℕ) → m < 2 * 10 ^ 17 → All (λ hint. hint < m) hints → All IsNumber (map (λ hint. hint + 1) hints)
  hints_written hints m few h = All-map IsNumber (λ hint. hint + 1) hints (All-weaker (λ hint. hint < m) (λ hint. IsNumber (hint + 1)) (λ hint b. number hint (omega (arith, b, few))) hints h)

  step_written : (clauses : List (List Lit)) (step : Step) → length clauses < 2 * 10 ^ 17 → IsValidStep f clauses step → MayBeWritten step
  step_written clauses (Lemma lits weights) few valid = (lits_written lits (negated_below f lits valid.rows is valid.negated), valid.fractions)
  step_written clauses (Learnt lits hints) few valid = (lits_written lits valid.variables, hints_written hints (length clauses) few valid.numbers)

  pub steps_written : (clauses : List (List Lit)) (steps : List Step) → length clauses + length steps < 2 * 10 ^ 17 → AreValid f clauses steps → All MayBeWritten steps
  steps_written clauses [] few valid = All-nil MayBeWritten
  steps_written clauses (step ∷ steps) few valid =
      let more = length-append clauses (clause_of step ∷ []) in
      All-cons MayBeWritten step steps (step_written clauses step (omega (arith, few)) valid.0) (steps_written (clauses ++ clause_of step ∷ []) steps (omega (arith, few, more)) valid.1)
