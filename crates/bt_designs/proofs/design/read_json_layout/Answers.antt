use Rattle.std.proofs.Common.{◌≡◌, refl, ap, Ok, Err, Result}
use Rattle.bt_text.specs.Answers.{seen}
use Rattle.bt_json.specs.declared.fault.JsonFault.TheVariants as json
use Rattle.bt_json.specs.Answers.{IsRead}
use Rattle.bt_designs.specs.declared.design.Laid.{Laid}
use Rattle.bt_designs.specs.declared.fault.DesignFault.{DesignFault}
use Rattle.bt_designs.specs.declared.fault.DesignFault.TheVariants.{Memory}
use Rattle.bt_designs.specs.Refusals.{json_told}
use Rattle.bt_designs.specs.Designs.{IsTieredBlueprint}
use Rattle.bt_designs.specs.Steps.{went_on}
use Rattle.bt_designs.proofs.InTurns.{stops}
use Rattle.bt_designs.proofs.JsonRefused.{refused}
use Rattle.bt_designs.proofs.design.read_json_layout.Goals as goal

pub returns-in-Ok-laid_of_blueprint-clause-layout : goal.returns-in-Ok-laid_of_blueprint-clause-layout
returns-in-Ok-laid_of_blueprint-clause-layout c = went_on _ c.in-Ok.ensures.answer.right (Ok c.in-Ok-laid_of_blueprint.laid, c.in-Ok-laid_of_blueprint.ensures, refl)

pub returns-in-Err-laid_of_blueprint-clause-layout : goal.returns-in-Err-laid_of_blueprint-clause-layout
returns-in-Err-laid_of_blueprint-clause-layout c = refused IsTieredBlueprint c.args.bytes.now _ c.in-Err-laid_of_blueprint.fault c.in-Ok.ensures.answer.right c.in-Err-laid_of_blueprint.ensures

pub returns-in-Err-clause-layout : goal.returns-in-Err-clause-layout
returns-in-Err-clause-layout c =
    stops json.Memory Memory (IsRead c.args.bytes.now) (λ fault. Err (json_told fault))
    (λ read answer. (found : Result Laid DesignFault) × IsTieredBlueprint read.0 found × (answer ≡ seen (λ (x : Laid). (x, read.1)) found))
    c.in-Err.fault (Err c.into.result) refl c.in-Err.ensures.answer.right (ap Err c.into.ensures)
