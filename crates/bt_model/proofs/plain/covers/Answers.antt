use Rattle.std.proofs.lemmas.Bool.{iff_false}
use Rattle.bt_model.proofs.Covering.{covers_one, covers_two}
use Rattle.bt_model.proofs.plain.covers.Goals as goal

pub returns-in-Some : goal.returns-in-Some
returns-in-Some c =
    covers_two c.args.part.now c.cells_of-second.result.0 c.cells_of-second.result.1 c.in-Some.greater c.args.cell _
    c.cells_of-second.ensures.first c.cells_of-second.ensures.second c.in-Some.is (iff_false c.is_same.ensures c.if-is_same.false) c.is_same-in-Some.ensures

pub returns-in-None : goal.returns-in-None
returns-in-None c =
    covers_one c.args.part.now c.cells_of-second.result.0 c.cells_of-second.result.1 c.args.cell
    c.cells_of-second.ensures.first c.cells_of-second.ensures.second c.in-None.is (iff_false c.is_same.ensures c.if-is_same.false)
