use Rattle.std.proofs.Common.{Ok, Err}
use Rattle.std.specs.Prelude.{vec_items}
use Rattle.bt_recover.specs.Recovered.{network_and_naming}
use Rattle.bt_recover.proofs.SideLemmas.{sides_answer}
use Rattle.bt_recover.proofs.sides.end_sides.Goals as goal

pub returns-in-Ok-stays_of : goal.returns-in-Ok-stays_of
returns-in-Ok-stays_of c =
    sides_answer c.args.grid.now (Ok (vec_items c.in-Ok-stays_of.stays)) (network_and_naming c.in-Ok.traced, c.in-Ok.ensures.right, c.in-Ok-stays_of.ensures)

pub returns : goal.returns
returns c = sides_answer c.args.grid.now (Err c.in-Err.fault) c.in-Err.ensures.right
