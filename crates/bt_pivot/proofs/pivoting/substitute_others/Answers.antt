use Rattle.std.proofs.Common.{◌≡◌, None, IfOk, IfErr, set, subst, ◌∙◌}
use Rattle.std.proofs.lemmas.List.{get_or_default}
use Rattle.bt_pivot.specs.SolvedForms.{slot_at}
use Rattle.bt_pivot.specs.inner.SumCache.{LinesStay}
use Rattle.bt_pivot.specs.inner.UnfitPivots.{IsUnfitSlot}
use Rattle.bt_pivot.proofs.KeptSums.{others_stay}
use Rattle.bt_pivot.proofs.UnfitPivots.{put_back}
use Rattle.bt_pivot.proofs.pivoting.substitute_others.Goals as goal

pub returns-in-Err-clause-unfit : goal.returns-in-Err-clause-unfit
returns-in-Err-clause-unfit c =
    let was : c.take-leaving.result ≡ slot_at c.args.lines.now c.args.left =
    c.take-leaving.ensures.value ∙ get_or_default c.args.lines.now c.args.left _ None c.requires in
    let told = subst (λ o. IfErr o (IsUnfitSlot c.args.enters c.args.zero.now (set c.args.lines.now c.args.left c.take-leaving.new.self) c.substitute.new.slots)) c.in-Err.is c.in_ok-substitute.ensures.unfit in
    let told' = subst (λ s. IsUnfitSlot c.args.enters c.args.zero.now (set c.args.lines.now c.args.left s) c.substitute.new.slots c.in-Err.cause) c.take-leaving.ensures.after told in
    put_back c.args.enters c.args.zero.now c.args.lines.now c.args.left c.take-leaving.result c.substitute.new.slots c.in-Err.cause c.requires was told'

pub returns-in-Ok-clause-kept : goal.returns-in-Ok-clause-kept
returns-in-Ok-clause-kept c =
    let stay = subst (λ o. IfOk o (λ d. LinesStay c.args.tableau.now (set c.args.lines.now c.args.left c.take-leaving.new.self) c.substitute.new.slots c.forget.new.self.sums.items c.substitute.new.kept.sums.items)) c.in-Ok.is c.in_ok-substitute.ensures.kept in
    others_stay c.args.tableau.now c.args.lines.now c.substitute.new.slots c.args.kept.now.sums.items c.forget.new.self.sums.items c.substitute.new.kept.sums.items c.args.left c.take-leaving.new.self c.forget.ensures stay
