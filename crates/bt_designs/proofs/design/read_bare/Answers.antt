use Rattle.std.proofs.Common.{◌≡◌, true, false, inl, inr, refl}
use Rattle.bt_designs.specs.declared.fault.DesignFault.TheVariants.{Memory}
use Rattle.bt_designs.specs.Designs.{IsToldOfLayout, IsBareText, IsBareDesign, in_basic_belts}
use Rattle.bt_designs.proofs.InTurns.{weaker}
use Rattle.bt_designs.proofs.design.read_bare.Goals as goal

pub returns-then-is_json-clause-design : goal.returns-then-is_json-clause-design
returns-then-is_json-clause-design c =
    let json = c.if-is_json.ensures in
    weaker Memory (IsToldOfLayout in_basic_belts c.args.bytes.now) (IsBareDesign c.args.bytes.now) _ (λ r h. inl (json.0 refl, h)) c.read_bare_json.ensures.design

pub returns-else-is_json-clause-design : goal.returns-else-is_json-clause-design
returns-else-is_json-clause-design c =
    let json = c.if-is_json.ensures in
    weaker Memory (IsBareText c.args.bytes.now) (IsBareDesign c.args.bytes.now) _ (λ r h. inr (λ j. let f : false ≡ true = json.1 j in cc, h)) c.read_bare_text.ensures.design
