use Rattle.std.proofs.Common.{refl, Err}
use Rattle.bt_designs.specs.declared.fault.DesignFault.TheVariants.{Memory}
use Rattle.bt_designs.specs.Designs.{IsPlacedWith}
use Rattle.bt_designs.specs.Steps.{went_on}
use Rattle.bt_designs.proofs.InTurns.{stops}
use Rattle.bt_designs.proofs.drawing.drawing_on.Goals as goal

pub returns-in-Ok-clause-layout : goal.returns-in-Ok-clause-layout
returns-in-Ok-clause-layout c = went_on c.in-Ok.net c.in-Ok.ensures refl

pub returns-in-Err-clause-layout : goal.returns-in-Err-clause-layout
returns-in-Err-clause-layout c = stops Memory Memory (IsPlacedWith c.args.priorities.now c.args.grid) Err _ c.in-Err.fault (Err c.in-Err.fault) refl c.in-Err.ensures refl
