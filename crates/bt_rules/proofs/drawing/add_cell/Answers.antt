use Rattle.bt_rules.specs.Carrying.{carrying_rules}
use Rattle.bt_rules.specs.Going.{handing_rules}
use Rattle.bt_rules.specs.Underground.{underground_rules}
use Rattle.bt_rules.specs.inner.Parts.{standing_part_rules}
use Rattle.bt_facts.proofs.Drawn.{four_added}
use Rattle.bt_rules.proofs.drawing.add_cell.Goals as goal

pub returns : goal.returns
returns c =
    let r = c.args.request.now in
    let cell = c.args.cell in
    four_added c.args.draft.now c.add_standing_parts.new.draft c.add_handing_parts.new.draft (standing_part_rules r cell) (handing_rules r cell) (underground_rules r cell) (carrying_rules r cell)
    c.in_ok-add_standing_parts.ensures c.in_ok-add_handing_parts.ensures
