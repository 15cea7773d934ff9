use Rattle.std.proofs.Common.{◌≡◌, true, false}
use Rattle.bt_recover.proofs.SideLemmas.{reach_of_one, reach_of_two}
use Rattle.bt_recover.proofs.sides.reaches_farther.Goals as goal

pub returns-in-Some : goal.returns-in-Some
returns-in-Some c =
    let cells = c.cells_of-second in
    reach_of_two c.args.part.now c.args.dir c.args.cell cells.result.0 cells.result.1 cells.ensures.first cells.ensures.second (λ far. let e : false ≡ true = c.if-is_farther.ensures.1 far in cc)
    c.in-Some.second c.is_farther-in-Some.result c.in-Some.is c.is_farther-in-Some.ensures

pub returns-in-None : goal.returns-in-None
returns-in-None c =
    let cells = c.cells_of-second in (
      λ t. absurd (let e : false ≡ true = t in cc),
      λ reach. absurd (reach_of_one c.args.part.now c.args.dir c.args.cell cells.result.0 cells.result.1 cells.ensures.first cells.ensures.second (λ far. let e : false ≡ true = c.if-is_farther.ensures.1 far in cc)
          c.in-None.is reach),
    )
