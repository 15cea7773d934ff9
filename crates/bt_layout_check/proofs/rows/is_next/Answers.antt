use Rattle.bt_layout_check.proofs.InRows.{next_told}
use Rattle.bt_layout_check.proofs.rows.is_next.Goals as goal

pub returns : goal.returns
returns c =
    next_told c.args.parts.now c.args.first c.args.second c.args.dir _ _ c.ahead.result c.is_same.result c.requires.first c.requires.second c.ahead.ensures c.is_same.ensures
