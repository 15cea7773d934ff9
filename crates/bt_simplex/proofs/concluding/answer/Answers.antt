use Rattle.std.proofs.Common.{ap, subst, IfErr, IfOk}
use Rattle.bt_simplex.specs.Causes.{IsCause}
use Rattle.bt_simplex.specs.Checks.{MeetsBoundRows, RefutesBoundRows}
use Rattle.bt_pivot.specs.Tableaus.{with_slots}
use Rattle.bt_simplex.proofs.Checking.{met_tableau, met_met, stuck_tableau, stuck_stuck, met_concludes, stuck_concludes, pivots_concludes, met_wide, stuck_wide, pivot_wide}
use Rattle.bt_simplex.proofs.concluding.answer.Goals as goal

pub settled-requires-clause-tableau : goal.settled-requires-clause-tableau
settled-requires-clause-tableau c = met_tableau c.requires.run.0 c.args.table.now c.args.steps.items c.args.basis.now c.args.end c.requires.run.1 c.in-Met.is

pub settled-requires-clause-met : goal.settled-requires-clause-met
settled-requires-clause-met c = met_met c.requires.run.0 c.args.table.now c.args.steps.items c.args.basis.now c.args.end c.requires.run.1 c.in-Met.is

pub lemma-requires-clause-tableau : goal.lemma-requires-clause-tableau
lemma-requires-clause-tableau c = stuck_tableau c.requires.run.0 c.args.table.now c.args.steps.items c.args.basis.now c.args.end c.requires.run.1 c.in-Stuck.position c.in-Stuck.is

pub lemma-requires-clause-stuck : goal.lemma-requires-clause-stuck
lemma-requires-clause-stuck c = stuck_stuck c.requires.run.0 c.args.table.now c.args.steps.items c.args.basis.now c.args.end c.requires.run.1 c.in-Stuck.position c.in-Stuck.is

pub returns-in-Ok : goal.returns-in-Ok
returns-in-Ok c = λ pivots run.
    met_concludes pivots c.args.table.now c.args.steps.items c.args.basis.now c.args.end run c.in-Ok.values c.in-Met.is
    (subst (λ o. IfOk o (λ v. MeetsBoundRows (with_slots c.args.table.now c.args.basis.now) v.items)) c.in-Ok.is c.in_ok-values-in-Met.ensures.meets)

pub returns-in-Ok-2 : goal.returns-in-Ok-2
returns-in-Ok-2 c = λ pivots run.
    stuck_concludes pivots c.args.table.now c.args.steps.items c.args.basis.now c.args.end run c.in-Ok-2.weights c.in-Stuck.position c.in-Stuck.is
    (subst (λ o. IfOk o (λ v. RefutesBoundRows (with_slots c.args.table.now c.args.basis.now) v.items)) c.in-Ok-2.is c.in_ok-weights-in-Stuck.ensures.weights)

pub returns-in_ok-trace-in-Pivots : goal.returns-in_ok-trace-in-Pivots
returns-in_ok-trace-in-Pivots c = λ pivots run.
    pivots_concludes pivots c.args.table.now c.args.steps.items c.args.basis.now c.args.end run c.in_ok-trace-in-Pivots.field-0 c.requires.tableau c.in-Pivots.is
    c.in_ok-trace-in-Pivots.ensures.0 (ap (λ v. v.items) c.in_ok-trace-in-Pivots.ensures.1)

pub returns-in_ok-wide-in-Err : goal.returns-in_ok-wide-in-Err
returns-in_ok-wide-in-Err c = λ pivots run.
    met_wide pivots c.args.table.now c.args.steps.items c.args.basis.now c.args.end run c.in-Err.cause c.in_ok-wide-in-Err.field-0 c.requires.tableau c.in-Met.is
    (subst (λ o. IfErr o (IsCause (with_slots c.args.table.now c.args.basis.now))) c.in-Err.is c.in_ok-values-in-Met.ensures.unfit) c.in_ok-wide-in-Err.ensures

pub returns-in_ok-wide-in-Err-2 : goal.returns-in_ok-wide-in-Err-2
returns-in_ok-wide-in-Err-2 c = λ pivots run.
    stuck_wide pivots c.args.table.now c.args.steps.items c.args.basis.now c.args.end run c.in-Err-2.cause c.in_ok-wide-in-Err-2.field-0 c.in-Stuck.position c.requires.tableau c.in-Stuck.is
    (subst (λ o. IfErr o (IsCause (with_slots c.args.table.now c.args.basis.now))) c.in-Err-2.is c.in_ok-weights-in-Stuck.ensures.unfit) c.in_ok-wide-in-Err-2.ensures

pub returns-in_ok-wide-in-Wide : goal.returns-in_ok-wide-in-Wide
returns-in_ok-wide-in-Wide c = λ pivots run.
    pivot_wide pivots c.args.table.now c.args.steps.items c.args.basis.now c.args.end run c.in-Wide.cause c.in_ok-wide-in-Wide.field-0 c.requires.tableau c.in-Wide.is c.in_ok-wide-in-Wide.ensures
