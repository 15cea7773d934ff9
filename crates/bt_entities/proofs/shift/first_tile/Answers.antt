use Rattle.std.proofs.Common.{rules, w64}
use Rattle.std.specs.Prelude.{FitsSigned}
use Rattle.std.proofs.lemmas.Int.{to_z-of_z}
use Rattle.bt_entities.proofs.Middles.{first_of_half}
use Rattle.bt_entities.proofs.shift.first_tile.Goals as goal

pub returns : goal.returns
returns c =
    let fits = c.ranges.middle in
    let twice_fits : FitsSigned w64 c.twice_first.result = search rules in
    first_of_half c.args.middle c.args.size c.args.shift c.twice_first.result c.half.result (simp to_z-of_z at c.twice_first.ensures.first) (simp to_z-of_z at c.half.ensures)
