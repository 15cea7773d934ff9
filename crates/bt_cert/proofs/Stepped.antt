-- Steps that were read and judged.
use Rattle.std.proofs.Common.{◌≡◌, ℕ, ◌<◌, ◌≤◌, ◌-◌, arith, Bool, List, length, get_or, Ok, Err, subst, map}
use Rattle.std.proofs.lemmas.List.{length-map, get_or-map}
use Rattle.bt_frac.specs.Ratio.{Ratio}
use Rattle.bt_cnf.specs.Formulas.{LitsBelow, IsFormula}
use Rattle.bt_cnf.specs.declared.literal.Lit.{Lit}
use Rattle.bt_log.proofs.NegatedAtoms.{negated_below}
use Rattle.bt_cert.specs.inner.Checking.{Checking, JudgesStep}
use Rattle.bt_cert.specs.StepLines.{Lemma, lit_of}
use Rattle.bt_extend.specs.declared.written.WrittenLit.{WrittenLit}
use Rattle.bt_cert.specs.declared.fault.Cause.TheVariants as cause
use Rattle.bt_cert.specs.declared.fault.StepFault.{StepFault}
use Rattle.bt_cert.specs.declared.fault.StepFault.TheVariants as fault
use Rattle.bt_cert.specs.inner.Knowing.{AddsClause}
use Rattle.bt_cert.specs.inner.Weighing.{JudgesLemma}

-- a written literal that is of no variable
pub read_fails : (vars : ℕ) (written : List WrittenLit) (i : ℕ) (d : WrittenLit) → i < length written → vars ≤ (get_or written i d).number - 1 → LitsBelow vars (map lit_of written) → ⊥
read_fails vars written i d inside above below =
    let at : get_or (map lit_of written) i (lit_of d) ≡ lit_of (get_or written i d) = get_or-map lit_of written i d (lit_of d) inside in
    let under : (lit_of (get_or written i d)).var < vars = subst (λ (l : Lit). l.var < vars) at (below i (lit_of d) (omega (arith, inside, length-map written lit_of))) in
    omega (arith, under, above)

module _ (old new : Checking) (same : new.formula ≡ old.formula) (lits : List WrittenLit) where
  -- literals of no variables
  pub lemma_unread : (weights : List Ratio) → IsFormula old.formula → (LitsBelow old.formula.vars (map lit_of lits) → ⊥) → JudgesStep old (Lemma lits weights) new (Err (fault.Fails cause.Literal))
  lemma_unread weights is none = (λ rows negate. none (negated_below old.formula (map lit_of lits) rows is negate), same)

  -- a step that isn't valid
  pub lemma_refused : (weights : List Ratio) (e : StepFault) → JudgesLemma old.formula (map lit_of lits) weights (Err e) → JudgesStep old (Lemma lits weights) new (Err e)
  lemma_refused weights (fault.Fails cause) judged = (judged, same)
  lemma_refused weights (fault.Wide at) judged = (judged, same)
  lemma_refused weights fault.Memory judged = same

module _ (old new : Checking) (lits : List WrittenLit) (empty : Bool) (added : AddsClause old (map lit_of lits) new empty) where
  -- a valid step
  pub lemma_kept : (weights : List Ratio) → JudgesLemma old.formula (map lit_of lits) weights (Ok tt) → JudgesStep old (Lemma lits weights) new (Ok empty)
  lemma_kept weights judged = (judged, added.0, added.1)
