use Rattle.std.proofs.Common.{IfErr, IfOk, subst, sym}
use Rattle.bt_pivot.specs.SolvedForms.{slot_at}
use Rattle.bt_pivot.specs.inner.UnfitPivots.{IsSlotZero, IsUnfitPart}
use Rattle.bt_pivot.specs.PivotedSlots.{IsUnfitPivot}
use Rattle.bt_pivot.proofs.UnfitPivots.{part_unfit}
use Rattle.bt_pivot.proofs.pivoting.pivot.Goals as goal

pub pivot_by-requires-clause-zero : goal.pivot_by-requires-clause-zero
pivot_by-requires-clause-zero c =
    subst (λ o. IfOk o (IsSlotZero (slot_at c.args.basis.now c.args.leaves) c.args.leaves c.args.enters)) c.in-Ok.is c.in_ok-zero.ensures.zero

pub returns-in-Err-clause-unfit : goal.returns-in-Err-clause-unfit
returns-in-Err-clause-unfit c =
    let part = subst (λ o. IfErr o (IsUnfitPart (slot_at c.args.basis.now c.args.leaves) c.args.leaves c.args.enters)) c.in-Err.is c.in_ok-zero.ensures.unfit in
    subst (λ w. IsUnfitPivot c.args.basis.now c.args.leaves c.args.enters c.args.basis.now w) (sym c.entry_cause.ensures) (part_unfit c.args.basis.now c.args.leaves c.args.enters c.in-Err.unfit part)
