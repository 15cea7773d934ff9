use Rattle.bt_layout_check.specs.Laid.{naming_of}
use Rattle.bt_layout_check.proofs.Halves.{marks_joined}
use Rattle.bt_layout_check.proofs.handing.handed.Goals as goal

pub matched-requires : goal.matched-requires
matched-requires c =
    marks_joined (naming_of c.args.own.now.names) (naming_of c.args.names.now) c.args.own.now.net c.args.net.now c.in_ok-first.first.items c.in_ok-second.second.items c.in_ok-first.ensures c.in_ok-second.ensures c.requires
