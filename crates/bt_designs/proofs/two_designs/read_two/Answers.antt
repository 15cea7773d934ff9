use Rattle.std.proofs.Common.{refl, Err}
use Rattle.bt_designs.specs.declared.fault.DesignFault.TheVariants.{Memory}
use Rattle.bt_designs.specs.Designs.{IsBareDesign}
use Rattle.bt_designs.specs.TwoDesigns.{IsSecondNet}
use Rattle.bt_designs.proofs.InTurns.{stops, went}
use Rattle.bt_designs.proofs.two_designs.read_two.Goals as goal

pub returns-in-Ok-clause-nets : goal.returns-in-Ok-clause-nets
returns-in-Ok-clause-nets c =
    went Memory (IsBareDesign c.args.bytes.now) Err (λ found. IsSecondNet found.0 c.args.bytes.now found.1) _ c.read_second.result c.in-Ok.ensures.design c.read_second.ensures.nets

pub returns-in-Err-clause-nets : goal.returns-in-Err-clause-nets
returns-in-Err-clause-nets c =
    stops Memory Memory (IsBareDesign c.args.bytes.now) Err (λ found. IsSecondNet found.0 c.args.bytes.now found.1) c.in-Err.fault (Err c.in-Err.fault) refl
    c.in-Err.ensures.design refl
