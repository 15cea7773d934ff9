use Rattle.std.proofs.lemmas.Int.{to_z-of_z}
use Rattle.bt_entities.proofs.Middles.{shifted}
use Rattle.bt_entities.proofs.shift.shift_of.Goals as goal

pub returns-in-None-clause-on : goal.returns-in-None-clause-on
returns-in-None-clause-on c =
    let fits = c.ranges.middle in
    shifted c.args.middle c.args.size (simp to_z-of_z at c.in-None.ensures)
