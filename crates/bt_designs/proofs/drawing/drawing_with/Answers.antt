use Rattle.std.proofs.Common.{◌≡◌, refl, ap, subst, ◌∙◌, Err}
use Rattle.std.proofs.lemmas.Result.{IfOk-weaker}
use Rattle.bt_text.specs.Answers.{UnlessMemory, seen}
use Rattle.bt_entities.specs.Answers.{parts_and_priorities_in}
use Rattle.bt_recover.specs.declared.grid.GridFault.TheVariants as grid
use Rattle.bt_recover.specs.Placing.{IsPlaced}
use Rattle.bt_designs.specs.declared.fault.DesignFault.TheVariants.{Memory}
use Rattle.bt_designs.specs.Designs.{IsLayoutWith, IsPlacedWith, IsTierOf}
use Rattle.bt_designs.specs.Refusals.{grid_told}
use Rattle.bt_designs.specs.inner.Drawings.{IsTieredOn, laid_of}
use Rattle.bt_designs.proofs.Drawings.{tiered}
use Rattle.bt_designs.proofs.InTurns.{stops}
use Rattle.bt_designs.proofs.drawing.drawing_with.Goals as goal

pub returns-in-Ok-clause-layout : goal.returns-in-Ok-clause-layout
returns-in-Ok-clause-layout c =
    let tier = c.tier_of-tier.result in
    tiered (parts_and_priorities_in c.args.read) c.in-Ok.grid tier c.in-Ok.ensures.right (subst (λ ps. IsTierOf ps tier) c.deref.ensures.value c.tier_of-tier.ensures)
    (seen laid_of c.drawing_on.result)
    (subst (λ ps. UnlessMemory Memory (IsTieredOn c.in-Ok.grid ps tier) (seen laid_of c.drawing_on.result)) c.deref-in-Ok.ensures.value c.drawing_on.ensures.layout)

pub returns-in-Ok-clause-drawn : goal.returns-in-Ok-clause-drawn
returns-in-Ok-clause-drawn c =
    IfOk-weaker c.drawing_on.result (λ drawing. drawing.grid ≡ c.in-Ok.grid) (λ drawing. drawing.grid ≡ c.args.read.parts.items) (λ drawing e. e ∙ c.in-Ok.ensures.right.0)
    c.drawing_on.ensures.drawn

pub returns-clause-layout : goal.returns-clause-layout
returns-clause-layout c =
    let read = parts_and_priorities_in c.args.read in
    stops Memory Memory (IsLayoutWith read) Err _ c.into.result (Err c.into.result) refl
    (stops grid.Memory Memory (IsPlaced read.0) (λ fault. Err (grid_told fault)) (IsPlacedWith read.1) c.in-Err.fault (Err c.into.result) refl c.in-Err.ensures.right (ap Err c.into.ensures))
    refl
