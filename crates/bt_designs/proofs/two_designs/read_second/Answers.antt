use Rattle.std.proofs.Common.{refl, subst, Err}
use Rattle.bt_text.specs.Blanks.{SkipsBlanks}
use Rattle.bt_designs.specs.declared.fault.DesignFault.TheVariants.{Memory}
use Rattle.bt_designs.specs.Alone.{IsAlone}
use Rattle.bt_designs.specs.Designs.{IsBareDesign}
use Rattle.bt_designs.specs.Steps.{InTurn}
use Rattle.bt_designs.specs.TwoDesigns.{IsPaired, IsSecondNet}
use Rattle.bt_designs.proofs.InTurns.{stops, went, weaker}
use Rattle.bt_designs.proofs.two_designs.read_second.Goals as goal

pub returns-in-Ok-clause-nets : goal.returns-in-Ok-clause-nets
returns-in-Ok-clause-nets c =
    let text = c.skip_blanks.result.now in
    let skips = subst (λ rest. SkipsBlanks rest text) c.split_at.ensures.back c.skip_blanks.ensures in
    weaker Memory (InTurn (IsAlone IsBareDesign text) Err (IsPaired c.args.first)) (IsSecondNet c.args.first c.args.bytes.now c.args.used) _ (λ r h. (text, skips, h))
    (went Memory (IsAlone IsBareDesign text) Err (IsPaired c.args.first) c.in-Ok.second c.paired.result c.in-Ok.ensures c.paired.ensures.nets)

pub returns-in-Err-clause-nets : goal.returns-in-Err-clause-nets
returns-in-Err-clause-nets c =
    let text = c.skip_blanks.result.now in
    let skips = subst (λ rest. SkipsBlanks rest text) c.split_at.ensures.back c.skip_blanks.ensures in
    weaker Memory (InTurn (IsAlone IsBareDesign text) Err (IsPaired c.args.first)) (IsSecondNet c.args.first c.args.bytes.now c.args.used) (Err c.in-Err.fault) (λ r h. (text, skips, h))
    (stops Memory Memory (IsAlone IsBareDesign text) Err (IsPaired c.args.first) c.in-Err.fault (Err c.in-Err.fault) refl c.in-Err.ensures refl)
