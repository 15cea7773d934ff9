use Rattle.std.proofs.Common.{◌≡◌, refl, ap, Ok, Err, Result}
use Rattle.bt_text.specs.Answers.{seen}
use Rattle.bt_json.specs.declared.fault.JsonFault.TheVariants as json
use Rattle.bt_json.specs.Answers.{IsRead}
use Rattle.bt_net.specs.Network.{Network}
use Rattle.bt_designs.specs.declared.fault.DesignFault.{DesignFault}
use Rattle.bt_designs.specs.declared.fault.DesignFault.TheVariants.{Memory}
use Rattle.bt_designs.specs.Refusals.{json_told}
use Rattle.bt_designs.specs.Designs.{IsPreferringNet}
use Rattle.bt_designs.specs.Steps.{went_on}
use Rattle.bt_designs.proofs.InTurns.{stops}
use Rattle.bt_designs.proofs.JsonRefused.{refused}
use Rattle.bt_designs.proofs.design.read_json.Goals as goal

pub returns-in-Ok-net_of_design-clause-design : goal.returns-in-Ok-net_of_design-clause-design
returns-in-Ok-net_of_design-clause-design c = went_on _ c.in-Ok.ensures.answer.right (Ok c.in-Ok-net_of_design.net, c.in-Ok-net_of_design.ensures, refl)

pub returns-in-Err-net_of_design-clause-design : goal.returns-in-Err-net_of_design-clause-design
returns-in-Err-net_of_design-clause-design c = refused IsPreferringNet c.args.bytes.now _ c.in-Err-net_of_design.fault c.in-Ok.ensures.answer.right c.in-Err-net_of_design.ensures

pub returns-in-Err-clause-design : goal.returns-in-Err-clause-design
returns-in-Err-clause-design c =
    stops json.Memory Memory (IsRead c.args.bytes.now) (λ fault. Err (json_told fault))
    (λ read answer. (net : Result Network DesignFault) × IsPreferringNet read.0 net × (answer ≡ seen (λ n. (n, read.1)) net))
    c.in-Err.fault (Err c.into.result) refl c.in-Err.ensures.answer.right (ap Err c.into.ensures)
