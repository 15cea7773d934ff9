use Rattle.std.proofs.Common.{refl, ap, subst, Err}
use Rattle.bt_text.specs.Answers.{UnlessMemory}
use Rattle.bt_recover.specs.declared.grid.GridFault.TheVariants as grid
use Rattle.bt_recover.specs.Placing.{IsPlaced}
use Rattle.bt_designs.specs.declared.fault.DesignFault.TheVariants.{Memory}
use Rattle.bt_designs.specs.Refusals.{grid_told}
use Rattle.bt_designs.specs.Designs.{IsPlacedWith}
use Rattle.bt_designs.proofs.InTurns.{stops, went}
use Rattle.bt_designs.proofs.design.net_of_prioritised.Goals as goal

pub returns-in-Ok : goal.returns-in-Ok
returns-in-Ok c =
    went Memory (IsPlaced c.args.read.parts.items) (λ fault. Err (grid_told fault)) (IsPlacedWith c.args.read.priorities.items) _ _ c.in-Ok.ensures.right
    (subst (λ ps. UnlessMemory Memory (IsPlacedWith ps c.in-Ok.grid) c.net_of_grid_with.result) c.deref.ensures.value c.net_of_grid_with.ensures)

pub returns : goal.returns
returns c =
    stops grid.Memory Memory (IsPlaced c.args.read.parts.items) (λ fault. Err (grid_told fault)) (IsPlacedWith c.args.read.priorities.items) c.in-Err.fault (Err c.into.result) refl
    c.in-Err.ensures.right (ap Err c.into.ensures)
