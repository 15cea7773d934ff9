use Rattle.std.proofs.lemmas.Result.{err_from_is_err_and}
use Rattle.std.proofs.lemmas.Bool.{iff_false}
use Rattle.bt_pivot.specs.Tableaus.{with_slots}
use Rattle.bt_simplex.proofs.Epsilons.{falls_from, half_at, room_cause}
use Rattle.bt_simplex.proofs.settling.room_at.Goals as goal

pub returns-clause-room : goal.returns-clause-room
returns-clause-room c = (
  c.in_ok-room.ensures.room.lowest,
  half_at (with_slots c.args.tableau.now c.args.basis.now) c.args.position c.in-Some.row.now c.in_ok-point.point c.in-Some.ensures c.in_ok-point.ensures.point c.in_ok-room.room
      c.is_falling.ensures.known.bound.positive (c.is_falling.ensures.told.0 c.if-not-is_falling.false) c.in_ok-room.ensures.room,
)

pub returns-then-not-is_falling-clause-room : goal.returns-then-not-is_falling-clause-room
returns-then-not-is_falling-clause-room c falls =
    iff_false c.is_falling.ensures.told c.if-not-is_falling.true
    (falls_from (with_slots c.args.tableau.now c.args.basis.now) c.args.position c.in-Some.row.now c.in_ok-point.point c.in-Some.ensures c.in_ok-point.ensures.point falls)

pub returns-in_err-room-clause-unfit : goal.returns-in_err-room-clause-unfit
returns-in_err-room-clause-unfit c =
    let p = err_from_is_err_and c.from_residual-in_err-room.result c.from_residual-in_err-room.ensures.1 in
    rw (p.1, p.2)
    (room_cause (with_slots c.args.tableau.now c.args.basis.now) c.args.position c.in-Some.row.now c.in_ok-point.point c.in-Some.ensures c.in_ok-point.ensures.point c.in_err-room.field-0.0 c.requires
    c.is_falling.ensures.known.bound.positive (c.is_falling.ensures.told.0 c.if-not-is_falling.false) c.in_err-room.ensures.unfit)
