use Rattle.std.proofs.Common.{◌≡◌, refl, ap, Ok, Err}
use Rattle.bt_net.specs.declared.fault.NetFault.TheVariants as net
use Rattle.bt_net.specs.declared.network.Admitted.TheVariants.{Nothing}
use Rattle.bt_net.specs.Readings.{IsNetRead}
use Rattle.bt_designs.specs.declared.fault.DesignFault.TheVariants.{Memory}
use Rattle.bt_designs.specs.Refusals.{net_told}
use Rattle.bt_designs.specs.Steps.{went_on}
use Rattle.bt_designs.proofs.InTurns.{stops}
use Rattle.bt_designs.proofs.design.read_bare_text.Goals as goal

pub returns-in-Ok-clause-design : goal.returns-in-Ok-clause-design
returns-in-Ok-clause-design c = went_on _ c.in-Ok.ensures.right refl

pub returns-in-Ok-clause-within : goal.returns-in-Ok-clause-within
returns-in-Ok-clause-within c = c.in-Ok.ensures.right.used

pub returns-in-Err-clause-design : goal.returns-in-Err-clause-design
returns-in-Err-clause-design c =
    stops net.Memory Memory (IsNetRead Nothing c.args.bytes.now) (λ fault. Err (net_told fault)) (λ read answer. answer ≡ Ok (read.net, read.used))
    c.in-Err.fault (Err c.into.result) refl c.in-Err.ensures.right (ap Err c.into.ensures)
