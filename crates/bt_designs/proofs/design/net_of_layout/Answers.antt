use Rattle.std.proofs.Common.{refl, ap, Err}
use Rattle.bt_recover.specs.declared.grid.GridFault.TheVariants as grid
use Rattle.bt_recover.specs.Placing.{IsPlaced}
use Rattle.bt_designs.specs.declared.fault.DesignFault.TheVariants.{Memory}
use Rattle.bt_designs.specs.Refusals.{grid_told}
use Rattle.bt_designs.specs.Designs.{IsPlacedNet}
use Rattle.bt_designs.proofs.InTurns.{stops, went}
use Rattle.bt_designs.proofs.design.net_of_layout.Goals as goal

pub returns-in-Ok : goal.returns-in-Ok
returns-in-Ok c = went Memory (IsPlaced c.args.parts.items) (λ fault. Err (grid_told fault)) IsPlacedNet _ _ c.in-Ok.ensures.right c.net_of_grid.ensures

pub returns-in-Err : goal.returns-in-Err
returns-in-Err c =
    stops grid.Memory Memory (IsPlaced c.args.parts.items) (λ fault. Err (grid_told fault)) IsPlacedNet c.in-Err.fault (Err c.into.result) refl
    c.in-Err.ensures.right (ap Err c.into.ensures)
