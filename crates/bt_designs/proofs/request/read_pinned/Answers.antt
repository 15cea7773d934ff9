use Rattle.std.proofs.Common.{◌≡◌, true, false, inl, inr, refl}
use Rattle.bt_net.specs.declared.network.Admitted.TheVariants.{All}
use Rattle.bt_designs.specs.declared.fault.DesignFault.TheVariants.{Memory}
use Rattle.bt_designs.specs.Designs.{IsTieredPreferring, IsToldOf}
use Rattle.bt_designs.specs.Requested.{pinned_laid, IsPinned, IsPinnedText}
use Rattle.bt_designs.proofs.InTurns.{weaker}
use Rattle.bt_designs.proofs.request.read_pinned.Goals as goal

pub returns-then-is_json-clause-design : goal.returns-then-is_json-clause-design
returns-then-is_json-clause-design c =
    let json = c.if-is_json.ensures in
    weaker Memory (IsToldOf IsTieredPreferring pinned_laid c.args.bytes.now) (IsPinned c.args.bytes.now) _ (λ r h. inl (json.0 refl, h)) c.read_pinned_json.ensures.design

pub returns-else-is_json-clause-design : goal.returns-else-is_json-clause-design
returns-else-is_json-clause-design c =
    let json = c.if-is_json.ensures in
    weaker Memory (IsPinnedText All c.args.bytes.now) (IsPinned c.args.bytes.now) _ (λ r h. inr (λ j. let f : false ≡ true = json.1 j in cc, h)) c.read_pinned_text.ensures.design
