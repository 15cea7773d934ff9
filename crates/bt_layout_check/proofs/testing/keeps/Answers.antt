use Rattle.bt_layout_check.specs.Laid.{naming_of}
use Rattle.bt_layout_check.proofs.Within.{counts_same}
use Rattle.bt_layout_check.proofs.testing.keeps.Goals as goal

pub keeps_demands-requires-clause-counts : goal.keeps_demands-requires-clause-counts
keeps_demands-requires-clause-counts c =
    counts_same c.args.grid.now c.args.own.now.net c.args.request.now.net (naming_of c.args.own.now.names) (naming_of c.args.names.now) c.requires.numbered c.requires.shows
