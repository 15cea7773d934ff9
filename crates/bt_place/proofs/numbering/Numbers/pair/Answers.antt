use Rattle.std.proofs.Common.{◌+◌, ◌*◌, ◌≤◌, arith}
use Rattle.std.proofs.Math.Nat.{mul-le-mul_left}
use Rattle.bt_place.specs.Numbering.{spot_of, dir_number}
use Rattle.bt_place.proofs.numbering.Numbers.pair.Goals as goal

pub turned-row-requires-clause-few : goal.turned-row-requires-clause-few
turned-row-requires-clause-few c =
    let row = spot_of c.args.self.now c.args.cell * 4 + dir_number c.args.dir in
    let some = c.requires.some in
    let most = c.requires.most in
    let few = c.requires.few in
    let one : 1 ≤ c.args.self.now.distances = omega (arith, some, most) in
    let each : row * 1 ≤ row * c.args.self.now.distances = mul-le-mul_left row one in
    omega (arith, each, few)
