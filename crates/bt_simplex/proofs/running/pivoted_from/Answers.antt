use Rattle.std.proofs.Common.{◌+◌, ◌≤◌, List, IfOk, IfErr, arith, length, refl, subst, sym}
use Rattle.bt_simplex.specs.Pivots.{Follows}
use Rattle.bt_pivot.specs.declared.basis.Pivot.{Pivot}
use Rattle.bt_pivot.specs.Tableaus.{with_slots}
use Rattle.bt_simplex.specs.inner.Bases.{IsNext}
use Rattle.bt_pivot.specs.Sums.{AreKept}
use Rattle.bt_simplex.specs.inner.Runs.{IsMade}
use Rattle.bt_pivot.specs.PivotedSlots.{IsUnfitPivot}
use Rattle.bt_pivot.proofs.KeptSums.{nothing_kept}
use Rattle.bt_simplex.proofs.Runs.{at_more, more_steps, met_run, stuck_run, wide_run, pivots_run, pivot_run}
use Rattle.bt_simplex.proofs.running.pivoted_from.Goals as goal

pub steps-init : goal.steps-init
steps-init c =
    let t = with_slots c.args.tableau.now c.args.work.now.basis in
    record {
      is_at = record { tableau = c.requires.tableau; follows = subst (λ (steps : List Pivot). Follows t steps t) (sym c.requires.none) refl };
      kept = nothing_kept c.args.tableau.now c.args.work.now.basis c.classes.result c.restart.new.self.sums.items c.in_ok-restart.ensures;
      few = subst (λ (steps : List Pivot). length steps ≤ c.args.pivots) (sym c.requires.none) (omega arith);
    }

pub returns-then-len-pivots : goal.returns-then-len-pivots
returns-then-len-pivots c =
    let bland = subst (λ n. IsNext (with_slots c.args.tableau.now c.steps.work.basis) n) c.in-Pivot.is c.blands_next.ensures.next in
    let many : c.args.pivots ≤ length c.steps.steps.items = omega arith in
    pivots_run c.args.pivots (with_slots c.args.tableau.now c.args.work.now.basis) c.steps.steps.items c.steps.work.basis c.steps.invariant.few c.steps.invariant.is_at c.in-Pivot.pivot many bland

pub returns-in-Err : goal.returns-in-Err
returns-in-Err c =
    let t = c.args.tableau.now in
    let pivot = c.in-Pivot.pivot in
    let bland = subst (λ n. IsNext (with_slots t c.steps.work.basis) n) c.in-Pivot.is c.blands_next.ensures.next in
    let told = subst (λ o. IfErr o (IsUnfitPivot c.steps.work.basis pivot.leaves pivot.enters c.make_pivot.new.basis)) c.in-Err.is c.in_ok-made-in-Pivot.ensures.unfit in
    pivot_run c.args.pivots (with_slots t c.args.work.now.basis) c.steps.steps.items c.steps.work.basis c.steps.invariant.few c.steps.invariant.is_at c.make_pivot.new.basis pivot c.in-Err.cause bland told

pub steps-preserved : goal.steps-preserved
steps-preserved c =
    let t = c.args.tableau.now in
    let start = with_slots t c.args.work.now.basis in
    let pivot = c.in-Pivot.pivot in
    let bland = subst (λ n. IsNext (with_slots t c.steps.work.basis) n) c.in-Pivot.is c.blands_next.ensures.next in
    let made = subst (λ o. IfOk o (λ d. IsMade t pivot c.steps.work.basis c.make_pivot.new.basis)) c.in_default.is c.in_ok-made-in-Pivot.ensures.done in
    let follows = at_more t start c.steps.steps.items c.steps.work.basis pivot c.make_pivot.new.basis c.steps.invariant.is_at.follows bland made in
    let few : length c.steps.steps.items + 1 ≤ c.args.pivots = omega arith in
    record {
      kept = subst (λ o. IfOk o (λ d. AreKept t c.make_pivot.new.basis c.make_pivot.new.kept.sums.items)) c.in_default.is c.in_ok-made-in-Pivot.ensures.kept;
      is_at = record { tableau = made.tableau; follows = subst (λ steps. Follows start steps (with_slots t c.make_pivot.new.basis)) (sym c.in_ok-push-in-Pivot.ensures.items) follows };
      few = subst (λ steps. length steps ≤ c.args.pivots) (sym c.in_ok-push-in-Pivot.ensures.items) (more_steps c.steps.steps.items pivot c.args.pivots few);
    }

pub returns-in-Met : goal.returns-in-Met
returns-in-Met c =
    met_run c.args.pivots (with_slots c.args.tableau.now c.args.work.now.basis) c.steps.steps.items c.steps.work.basis c.steps.invariant.few c.steps.invariant.is_at
    (subst (λ n. IsNext (with_slots c.args.tableau.now c.steps.work.basis) n) c.in-Met.is c.blands_next.ensures.next)

pub returns-in-Stuck : goal.returns-in-Stuck
returns-in-Stuck c =
    stuck_run c.args.pivots (with_slots c.args.tableau.now c.args.work.now.basis) c.steps.steps.items c.steps.work.basis c.steps.invariant.few c.steps.invariant.is_at c.in-Stuck.position
    (subst (λ n. IsNext (with_slots c.args.tableau.now c.steps.work.basis) n) c.in-Stuck.is c.blands_next.ensures.next)

pub returns-in-Wide : goal.returns-in-Wide
returns-in-Wide c =
    wide_run c.args.pivots (with_slots c.args.tableau.now c.args.work.now.basis) c.steps.steps.items c.steps.work.basis c.steps.invariant.few c.steps.invariant.is_at c.in-Wide.cause
    (subst (λ n. IsNext (with_slots c.args.tableau.now c.steps.work.basis) n) c.in-Wide.is c.blands_next.ensures.next)
