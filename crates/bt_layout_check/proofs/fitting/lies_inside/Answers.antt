use Rattle.bt_layout_check.proofs.Within.{lies_one, lies_two}
use Rattle.bt_layout_check.proofs.fitting.lies_inside.Goals as goal

pub returns-in-Some : goal.returns-in-Some
returns-in-Some c =
    lies_two c.args.rect c.args.part.now c.cells_of.result.1 c.in-Some.greater c.inside-in-Some.result (c.inside.ensures.0 c.if-not-inside.false) c.cells_of.ensures.second c.in-Some.is
    c.inside-in-Some.ensures

pub returns-in-None : goal.returns-in-None
returns-in-None c = lies_one c.args.rect c.args.part.now c.cells_of.result.1 (c.inside.ensures.0 c.if-not-inside.false) c.cells_of.ensures.second c.in-None.is
