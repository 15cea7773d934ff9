use Rattle.std.proofs.Common.{◌+◌, ◌≤◌, length, arith, subst, sym}
use Rattle.bt_pivot.specs.Tableaus.{with_slots}
use Rattle.bt_simplex.specs.inner.Settling.{IsRoomAt}
use Rattle.bt_simplex.proofs.Epsilons.{IsLeastRoom, least_stays, least_more, least_ends}
use Rattle.bt_simplex.proofs.settling.epsilon.Goals as goal
use Rattle.bt_simplex.proofs.settling.epsilon.Goals.{in-Some, in-None}

pub loop-position-preserved : goal.loop-position-preserved
loop-position-preserved c =
    elim c.match-branch-2.branch [
      | in-Some w ↦
          subst (λ e. IsLeastRoom (with_slots c.args.tableau.now c.args.basis.now) (c.loop-position.position + 1) e) (sym w.epsilon-is)
          (least_more (with_slots c.args.tableau.now c.args.basis.now) c.loop-position.position c.loop-position.epsilon w.in-Some.room w.lesser-epsilon.result c.requires.tableau c.loop-position.invariant
          (subst (λ o. IsRoomAt (with_slots c.args.tableau.now c.args.basis.now) c.loop-position.position o) w.in-Some.is c.in_ok-room.ensures.room) w.lesser-epsilon.ensures)
      | in-None w ↦
          subst (λ e. IsLeastRoom (with_slots c.args.tableau.now c.args.basis.now) (c.loop-position.position + 1) e) (sym w.epsilon-is)
          (least_stays (with_slots c.args.tableau.now c.args.basis.now) c.loop-position.position c.loop-position.epsilon c.loop-position.invariant
          (subst (λ o. IsRoomAt (with_slots c.args.tableau.now c.args.basis.now) c.loop-position.position o) w.in-None.is c.in_ok-room.ensures.room))
    ]

pub returns-clause-epsilon : goal.returns-clause-epsilon
returns-clause-epsilon c =
    let past : length c.args.basis.now ≤ c.loop-position.position = omega arith in
    least_ends (with_slots c.args.tableau.now c.args.basis.now) c.loop-position.position c.loop-position.epsilon c.requires.tableau past c.loop-position.invariant
