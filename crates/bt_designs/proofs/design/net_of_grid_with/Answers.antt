use Rattle.std.proofs.Common.{◌≡◌, refl, ap, Ok, Err}
use Rattle.bt_recover.specs.declared.fault.RecoverFault.TheVariants as layout
use Rattle.bt_recover.specs.Preferred.{IsRecoveredWith}
use Rattle.bt_designs.specs.declared.fault.DesignFault.TheVariants.{Memory}
use Rattle.bt_designs.specs.Refusals.{layout_told}
use Rattle.bt_designs.specs.Steps.{went_on}
use Rattle.bt_designs.proofs.InTurns.{stops}
use Rattle.bt_designs.proofs.design.net_of_grid_with.Goals as goal

pub returns-in-Ok : goal.returns-in-Ok
returns-in-Ok c = went_on _ c.in-Ok.ensures.right refl

pub returns : goal.returns
returns c =
    stops layout.Memory Memory (IsRecoveredWith c.args.grid.now c.args.priorities.now) (λ fault. Err (layout_told fault)) (λ found answer. answer ≡ Ok found.0) c.in-Err.fault
    (Err c.into.result) refl c.in-Err.ensures.right (ap Err c.into.ensures)
