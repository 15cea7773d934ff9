use Rattle.std.proofs.Common.{rules, w32}
use Rattle.std.specs.Prelude.{FitsSigned}
use Rattle.std.proofs.lemmas.Int.{to_z-of_z}
use Rattle.bt_entities.proofs.Placed.{has_shift}
use Rattle.bt_entities.proofs.piece.Piece.shift.Goals as goal

pub returns : goal.returns
returns c =
    let fits_x : FitsSigned w32 c.in_ok-twice_x.twice_x = search rules in
    let fits_y : FitsSigned w32 c.in_ok-twice_y.twice_y = search rules in
    let x = simp to_z-of_z at c.shift_of-x.ensures.on in
    let y = simp to_z-of_z at c.shift_of-y.ensures.on in
    has_shift c.args.self.now c.in_ok-twice_x.twice_x c.in_ok-twice_y.twice_y c.width.result c.height.result c.shift_of-x.result c.shift_of-y.result x.0 y.0
    c.in_ok-twice_x.was c.in_ok-twice_y.was c.width.ensures c.height.ensures c.shift_of-x.ensures.small c.shift_of-y.ensures.small x.1 y.1
