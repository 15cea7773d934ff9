use Rattle.std.proofs.Common.{subst}
use Rattle.bt_layout.specs.Layouts.{IsLayout}
use Rattle.bt_top.proofs.layout.layout_told.Goals as goal

pub parts_told-requires-clause-lays : goal.parts_told-requires-clause-lays
parts_told-requires-clause-lays c =
    let is = subst (IsLayout c.args.request.now c.requires.found.0) c.in-Found.is c.requires.found.1 in
    is.0

pub parts_told-requires-clause-few : goal.parts_told-requires-clause-few
parts_told-requires-clause-few c =
    let is = subst (IsLayout c.args.request.now c.requires.found.0) c.in-Found.is c.requires.found.1 in
    is.2
