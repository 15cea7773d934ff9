use Rattle.std.proofs.Common.{◌≡◌, List, Result, refl, ap, subst, sym, Ok, Err}
use Rattle.std.specs.Prelude.{IfOk}
use Rattle.std.proofs.lemmas.Result.{IfOk-weaker}
use Rattle.bt_text.specs.Answers.{seen}
use Rattle.bt_json.specs.Stands.{json_of}
use Rattle.bt_parts.specs.declared.hand.Priority.{Priority}
use Rattle.bt_entities.specs.Answers.{IsPrioritisedOf}
use Rattle.bt_entities.specs.declared.fault.EntityFault.TheVariants as entity
use Rattle.bt_designs.specs.declared.fault.DesignFault.TheVariants.{Memory}
use Rattle.bt_designs.specs.Refusals.{entity_told}
use Rattle.bt_designs.specs.Designs.{IsTieredWith}
use Rattle.bt_designs.specs.inner.Drawings.{laid_of}
use Rattle.bt_designs.proofs.InTurns.{stops, went}
use Rattle.bt_designs.proofs.drawing.drawing_of.Goals as goal

pub returns-in-Ok-clause-layout : goal.returns-in-Ok-clause-layout
returns-in-Ok-clause-layout c =
    went Memory (IsPrioritisedOf (json_of c.args.tree)) (λ fault. Err (entity_told fault)) IsTieredWith _ (seen laid_of c.drawing_with.result) c.in-Ok.ensures.right c.drawing_with.ensures.layout

pub returns-in-Ok-clause-drawn : goal.returns-in-Ok-clause-drawn
returns-in-Ok-clause-drawn c =
    let is = IsPrioritisedOf (json_of c.args.tree) in
    IfOk-weaker c.drawing_with.result (λ drawing. drawing.grid ≡ c.in-Ok.read.parts.items) (λ drawing. (priorities : List Priority) × is (Ok (drawing.grid, priorities)))
    (λ drawing e. (c.in-Ok.read.priorities.items, subst (λ ps. is (Ok (ps, c.in-Ok.read.priorities.items))) (sym e) c.in-Ok.ensures.right)) c.drawing_with.ensures.drawn

pub returns-in-Err-clause-layout : goal.returns-in-Err-clause-layout
returns-in-Err-clause-layout c =
    stops entity.Memory Memory (IsPrioritisedOf (json_of c.args.tree)) (λ fault. Err (entity_told fault)) IsTieredWith c.in-Err.fault (Err c.into.result) refl
    c.in-Err.ensures.right (ap Err c.into.ensures)
