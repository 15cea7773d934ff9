use Rattle.bt_rules.specs.Carrying.{carrying_rules}
use Rattle.bt_rules.specs.Going.{handing_rules}
use Rattle.bt_rules.specs.Underground.{underground_rules}
use Rattle.bt_facts.proofs.Drawn.{three_together}
use Rattle.bt_rules.proofs.drawing.add_handing_parts.Goals as goal

pub returns : goal.returns
returns c =
    let r = c.args.request.now in
    let cell = c.args.cell in
    three_together c.args.draft.now c.add_handing.new.draft c.add_underground.new.draft c.add_carrying.new.draft (handing_rules r cell) (underground_rules r cell) (carrying_rules r cell)
    c.in_ok-add_handing.ensures c.in_ok-add_underground.ensures c.in_ok-add_carrying.ensures
