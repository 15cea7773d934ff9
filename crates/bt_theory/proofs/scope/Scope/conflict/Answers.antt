use Rattle.std.proofs.Common.{◌≡◌, ℕ, List, Bool, map, ap, ◌∙◌, subst}
use Rattle.std.specs.Prelude.{IfSome}
use Rattle.std.proofs.lemmas.Option.{IfSome_then}
use Rattle.std.proofs.lemmas.Result.{IfOk-weaker}
use Rattle.bt_frac.specs.Ratio.{Ratio}
use Rattle.bt_frac.specs.Rows.{RowParts}
use Rattle.bt_cnf.specs.Assignments.{truth_in}
use Rattle.bt_pivot.specs.Tableaus.{TableauParts}
use Rattle.bt_simplex.specs.Checks.{IsCheck, RefutesBoundRows}
use Rattle.bt_theory.specs.inner.Scopes.{IsConflictIn, IsShown}
use Rattle.bt_theory.specs.declared.lemma.Conflict.{Conflict}
use Rattle.bt_theory.proofs.Rounds.{conflict_in}
use Rattle.bt_theory.proofs.scope.Scope.conflict.Goals as goal

-- the conflict of rows that were bound, where it is weighed again by rows with these atoms
found_here : (atoms : List ℕ) (rows : List RowParts) (t : TableauParts) (chosen : List Bool) (weighed : List (ℕ × Ratio)) → t.bound ≡ map (truth_in chosen) atoms → RefutesBoundRows t weighed
    → (conflict : Conflict) → IsShown atoms rows weighed conflict → IsConflictIn chosen conflict (atoms, rows)
found_here atoms rows t chosen weighed bound refutes conflict shown = conflict_in atoms t chosen bound weighed refutes conflict rows shown.accepted shown.of

pub returns-in-Unsat-clause-found : goal.returns-in-Unsat-clause-found
returns-in-Unsat-clause-found c =
    let t0 = c.args.self.now.tableau in
    let t1 = c.bind.new.tableau in
    let atoms = c.args.self.now.atoms.items in
    let rows = c.args.self.now.rows.items in
    let chosen = c.args.assignment.now in
    let weighed = c.in-Unsat.weighed.items in
    let check = subst (IsCheck c.args.pivots t1 c.check.new.self) c.in-Unsat.is c.in_ok-weighed.ensures.checked in
    let bound : t1.bound ≡ map (truth_in chosen) atoms = ap (λ (t : TableauParts). t.bound) c.bind.ensures ∙ ap (map (truth_in chosen)) c.deref.ensures.value in
    let IsLent : Conflict → Type 0 = IsShown c.deref-in-Unsat.result.now c.deref-in-Unsat-2.result.now c.deref-in-Unsat-3.result.now in
    let own : (conflict : Conflict) → IsLent conflict → IsShown atoms rows weighed conflict = λ conflict is.
    subst (λ list. IsShown atoms rows list conflict) c.deref-in-Unsat-3.ensures.value
    (subst (λ list. IsShown atoms list c.deref-in-Unsat-3.result.now conflict) c.deref-in-Unsat-2.ensures.value
    (subst (λ list. IsShown list c.deref-in-Unsat-2.result.now c.deref-in-Unsat-3.result.now conflict) c.deref-in-Unsat.ensures.value is)) in
    IfOk-weaker c.shown.result (λ found. IfSome found IsLent) (λ found. IfSome found (λ conflict. IsConflictIn chosen conflict (atoms, rows))) (λ found h. IfSome_then found h (λ conflict is. found_here atoms rows t1 chosen weighed bound check.2 conflict (own conflict is))) c.shown.ensures
