use Rattle.std.proofs.Common.{sym, subst}
use Rattle.bt_place.specs.inner.Told.{IsSolved}
use Rattle.bt_place.proofs.Solving.{solved_by}
use Rattle.bt_place.proofs.decoding.decode.Goals as goal

pub reached-requires : goal.reached-requires
reached-requires c =
    subst IsSolved (sym c.new-reading.ensures) (solved_by c.args.request.now c.args.assignment.now c.in_ok-numbers.ensures.known c.requires)

pub parts_on-requires-clause-solved : goal.parts_on-requires-clause-solved
parts_on-requires-clause-solved c =
    subst IsSolved (sym c.new-reading.ensures) (solved_by c.args.request.now c.args.assignment.now c.in_ok-numbers.ensures.known c.requires)
