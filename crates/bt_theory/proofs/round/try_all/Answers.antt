use Rattle.std.proofs.Common.{ℕ, ◌<◌, List, length, ap, sym, ◌∙◌, subst}
use Rattle.std.specs.List.{All}
use Rattle.std.proofs.lemmas.List.{length-map}
use Rattle.std.proofs.lemmas.Result.{IfOk-weaker}
use Rattle.bt_frac.specs.Ratio.{Ratio}
use Rattle.bt_simplex.specs.Checks.{IsCheck}
use Rattle.bt_theory.specs.inner.Bases.{base_in}
use Rattle.bt_theory.specs.inner.Rounds.{IsLemmaLearnt, IsRound}
use Rattle.bt_theory.specs.inner.Scopes.{IsConflictOf}
use Rattle.bt_theory.specs.declared.round.End.TheVariants as end
use Rattle.bt_theory.proofs.Reached.{bound_for}
use Rattle.bt_theory.proofs.PivotTraces.{pivoted_on, too_wide}
use Rattle.bt_theory.proofs.Rounds.{reached, solves_all, ready_after, conflict_all, rows_of_atoms, makes_lemma, ends_round, learnt_round}
use Rattle.bt_theory.proofs.round.try_all.Goals as goal

pub learn-requires : goal.learn-requires
learn-requires g c =
    let b = c.args.base.now in
    let s = c.args.solver.now.kernel in
    let t0 = c.args.tableau.now in
    let t1 = c.bind.new.tableau in
    let chosen = c.args.chosen.items in
    let bound = bound_for t0 t1 b.atoms.items c.atoms.result.now chosen c.deref.result.now c.atoms.ensures c.deref.ensures.value c.bind.ensures in
    let t2 = c.check.new.self in
    let conflict = c.in_ok-conflict_of-in-Unsat.field-0 in
    let check = subst (IsCheck c.args.pivots t1 t2) c.in-Unsat.is c.in_ok-values.ensures.checked in
    let is = subst (λ vars. IsConflictOf vars c.in-Unsat.weighed.items conflict) c.atoms-in-Unsat.ensures
    (subst (λ weighed. IsConflictOf c.atoms-in-Unsat.result.now weighed conflict) c.deref-in-Unsat.ensures.value c.in_ok-conflict_of-in-Unsat.ensures) in
    let conflicts = conflict_all b s t0 t1 chosen c.args.pivots c.requires.base c.requires.ready c.requires.chosen bound c.in-Unsat.weighed.items conflict check.2 is in
    makes_lemma b s chosen conflict c.requires.chosen conflicts

pub returns-in_ok-conflict_of-in-Unsat : goal.returns-in_ok-conflict_of-in-Unsat
returns-in_ok-conflict_of-in-Unsat g c =
    let b = c.args.base.now in
    let s = c.args.solver.now.kernel in
    let t0 = c.args.tableau.now in
    let t1 = c.bind.new.tableau in
    let chosen = c.args.chosen.items in
    let bound = bound_for t0 t1 b.atoms.items c.atoms.result.now chosen c.deref.result.now c.atoms.ensures c.deref.ensures.value c.bind.ensures in
    let t2 = c.check.new.self in
    let conflict = c.in_ok-conflict_of-in-Unsat.field-0 in
    let check = subst (IsCheck c.args.pivots t1 t2) c.in-Unsat.is c.in_ok-values.ensures.checked in
    let is = subst (λ vars. IsConflictOf vars c.in-Unsat.weighed.items conflict) c.atoms-in-Unsat.ensures
    (subst (λ weighed. IsConflictOf c.atoms-in-Unsat.result.now weighed conflict) c.deref-in-Unsat.ensures.value c.in_ok-conflict_of-in-Unsat.ensures) in
    let conflicts = conflict_all b s t0 t1 chosen c.args.pivots c.requires.base c.requires.ready c.requires.chosen bound c.in-Unsat.weighed.items conflict check.2 is in
    let s' = c.learn.new.solver.kernel in
    IfOk-weaker c.learn.result (IsLemmaLearnt s s' conflict) (IsRound c.args.pivots b s s' t2)
    (learnt_round c.args.pivots b s s' t2 chosen conflict (ready_after b s t0 t1 chosen c.args.pivots c.requires.base c.requires.ready c.requires.chosen bound t2 check.0) c.requires.chosen conflicts)
    c.learn.ensures

pub returns-in-Sat : goal.returns-in-Sat
returns-in-Sat g c =
    let b = c.args.base.now in
    let s = c.args.solver.now.kernel in
    let t0 = c.args.tableau.now in
    let t1 = c.bind.new.tableau in
    let chosen = c.args.chosen.items in
    let bound = bound_for t0 t1 b.atoms.items c.atoms.result.now chosen c.deref.result.now c.atoms.ensures c.deref.ensures.value c.bind.ensures in
    let check = subst (IsCheck c.args.pivots t1 c.check.new.self) c.in-Sat.is c.in_ok-values.ensures.checked in
    ends_round c.args.pivots b s c.check.new.self (end.Sat (record { values = c.in-Sat.values; assignment = c.args.chosen }))
    (solves_all b s t0 t1 chosen c.args.pivots c.requires.base c.requires.ready c.requires.chosen bound c.in-Sat.values.items check.2)

pub returns-in-Pivots : goal.returns-in-Pivots
returns-in-Pivots g c =
    let b = c.args.base.now in
    let s = c.args.solver.now.kernel in
    let t0 = c.args.tableau.now in
    let t1 = c.bind.new.tableau in
    let chosen = c.args.chosen.items in
    let bound = bound_for t0 t1 b.atoms.items c.atoms.result.now chosen c.deref.result.now c.atoms.ensures c.deref.ensures.value c.bind.ensures in
    let check = subst (IsCheck c.args.pivots t1 c.check.new.self) c.in-Pivots.is c.in_ok-values.ensures.checked in
    ends_round c.args.pivots b s c.check.new.self (end.Pivots c.in-Pivots.trace)
    (pivoted_on (base_in b s.formula) t1 (reached b s t0 t1 chosen c.args.pivots c.requires.base c.requires.ready c.requires.chosen bound) c.args.pivots c.in-Pivots.trace check.1)

pub returns-in-Wide : goal.returns-in-Wide
returns-in-Wide g c =
    let b = c.args.base.now in
    let s = c.args.solver.now.kernel in
    let t0 = c.args.tableau.now in
    let t1 = c.bind.new.tableau in
    let chosen = c.args.chosen.items in
    let bound = bound_for t0 t1 b.atoms.items c.atoms.result.now chosen c.deref.result.now c.atoms.ensures c.deref.ensures.value c.bind.ensures in
    let check = subst (IsCheck c.args.pivots t1 c.check.new.self) c.in-Wide.is c.in_ok-values.ensures.checked in
    ends_round c.args.pivots b s c.check.new.self (end.Wide c.in-Wide.wide)
    (too_wide (base_in b s.formula) t1 (reached b s t0 t1 chosen c.args.pivots c.requires.base c.requires.ready c.requires.chosen bound) c.args.pivots c.in-Wide.wide check.1)

pub bind-requires : goal.bind-requires
bind-requires g c =
    let b = c.args.base.now in
    let f = base_in b c.args.solver.now.kernel.formula in
    ap length c.atoms.ensures ∙ ap length c.requires.base.atoms ∙ length-map f.atoms (λ a. a.0) ∙ sym (ap length c.requires.ready.tableau.rows ∙ length-map f.atoms (λ a. a.1))

pub conflict_of-requires : goal.conflict_of-requires
conflict_of-requires g c =
    let b = c.args.base.now in
    let s = c.args.solver.now.kernel in
    let t0 = c.args.tableau.now in
    let t1 = c.bind.new.tableau in
    let chosen = c.args.chosen.items in
    let bound = bound_for t0 t1 b.atoms.items c.atoms.result.now chosen c.deref.result.now c.atoms.ensures c.deref.ensures.value c.bind.ensures in
    let check = subst (IsCheck c.args.pivots t1 c.check.new.self) c.in-Unsat.is c.in_ok-values.ensures.checked in
    subst (λ (weighed : List (ℕ × Ratio)). All (λ w. w.0 < length c.atoms-in-Unsat.result.now) weighed) (sym c.deref-in-Unsat.ensures.value)
    (subst (λ (vars : List ℕ). All (λ w. w.0 < length vars) c.in-Unsat.weighed.items) (sym c.atoms-in-Unsat.ensures)
    (rows_of_atoms b s t0 t1 chosen c.args.pivots c.requires.base c.requires.ready c.requires.chosen bound c.in-Unsat.weighed.items check.2))
