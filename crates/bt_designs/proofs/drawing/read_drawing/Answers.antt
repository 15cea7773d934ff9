use Rattle.std.proofs.Common.{◌≡◌, refl, ap, Ok, Err, Result}
use Rattle.bt_text.specs.Answers.{seen}
use Rattle.bt_json.specs.declared.fault.JsonFault.TheVariants as json
use Rattle.bt_json.specs.Answers.{IsRead}
use Rattle.bt_designs.specs.declared.design.Laid.{Laid}
use Rattle.bt_designs.specs.declared.fault.DesignFault.{DesignFault}
use Rattle.bt_designs.specs.declared.fault.DesignFault.TheVariants.{Memory}
use Rattle.bt_designs.specs.Refusals.{json_told}
use Rattle.bt_designs.specs.Designs.{IsTieredPreferring}
use Rattle.bt_designs.specs.Steps.{went_on}
use Rattle.bt_designs.proofs.InTurns.{stops}
use Rattle.bt_designs.proofs.JsonRefused.{refused}
use Rattle.bt_designs.proofs.drawing.read_drawing.Goals as goal

pub returns-in-Ok-drawing_of-clause-layout : goal.returns-in-Ok-drawing_of-clause-layout
returns-in-Ok-drawing_of-clause-layout c = went_on _ c.in-Ok.ensures.answer.right (Ok c.in-Ok-drawing_of.drawing.laid, c.in-Ok-drawing_of.ensures.layout, refl)

pub returns-in-Ok-drawing_of-clause-drawn : goal.returns-in-Ok-drawing_of-clause-drawn
returns-in-Ok-drawing_of-clause-drawn c = (_, c.in-Ok.ensures.answer.right, c.in-Ok-drawing_of.ensures.drawn.0, c.in-Ok-drawing_of.ensures.drawn.1)

pub returns-in-Err-drawing_of-clause-layout : goal.returns-in-Err-drawing_of-clause-layout
returns-in-Err-drawing_of-clause-layout c = refused IsTieredPreferring c.args.bytes.now _ c.in-Err-drawing_of.fault c.in-Ok.ensures.answer.right c.in-Err-drawing_of.ensures.layout

pub returns-in-Err-clause-layout : goal.returns-in-Err-clause-layout
returns-in-Err-clause-layout c =
    stops json.Memory Memory (IsRead c.args.bytes.now) (λ fault. Err (json_told fault))
    (λ read answer. (found : Result Laid DesignFault) × IsTieredPreferring read.0 found × (answer ≡ seen (λ (x : Laid). (x, read.1)) found))
    c.in-Err.fault (Err c.into.result) refl c.in-Err.ensures.answer.right (ap Err c.into.ensures)
