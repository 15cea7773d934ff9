use Rattle.std.proofs.Common.{◌≢◌, ◌∙◌, ap, sym, subst, refl, pos}
use Rattle.bt_frac.specs.Ratio.{Ratio, negated}
use Rattle.bt_simplex.proofs.Epsilons.{room_formed, gap_number, quotient_number, room_add, room_div, room_mul, negated_some}
use Rattle.bt_simplex.proofs.settling.room.Goals as goal

pub div-requires : goal.div-requires
div-requires c = subst (λ (f : Ratio). f.over ≢ pos 0) (sym c.negate-fall.ensures.negated) (negated_some c.args.point.now.tiny c.requires.below)

pub returns-clause-room : goal.returns-clause-room
returns-clause-room c =
    room_formed c.args.row.now c.args.point.now c.negate-right.result c.negate-fall.result c.in-Some.gap c.in-Some-div.quotient c.in-Some-mul.room c.add.ensures.known.0 c.bound.ensures.known.bound
    c.negate-fall.ensures.known (c.negate-right.ensures.negated ∙ ap negated c.bound.ensures.value) c.negate-fall.ensures.negated c.in-Some.ensures.lowest c.in-Some.ensures.sum c.in-Some-div.ensures.lowest
    c.in-Some-div.ensures.some c.half-half.result c.half-half.ensures c.in-Some-mul.ensures.lowest c.in-Some-mul.ensures.some

pub returns-in_default-clause-unfit : goal.returns-in_default-clause-unfit
returns-in_default-clause-unfit c =
    room_add c.args.position c.args.row.now c.args.point.now c.settle_cause.result (c.add.ensures.known.0, c.denominator.ensures.known) c.args.point.now.value c.negate-right.result c.settle_cause.ensures c.in_default.ensures.none refl
    (c.negate-right.ensures.negated ∙ ap negated c.bound.ensures.value)

pub returns-in_default-div-clause-unfit : goal.returns-in_default-div-clause-unfit
returns-in_default-div-clause-unfit c =
    room_div c.args.position c.args.row.now c.args.point.now c.settle_cause-in_default-div.result (c.add.ensures.known.0, c.negate-fall.ensures.known) c.in-Some.gap c.negate-fall.result
    c.settle_cause-in_default-div.ensures
    (subst (λ (f : Ratio). f.over ≢ pos 0) (sym c.negate-fall.ensures.negated) (negated_some c.args.point.now.tiny c.requires.below), c.in_default-div.ensures.none)
    (gap_number c.args.row.now c.args.point.now c.negate-right.result c.in-Some.gap (c.negate-right.ensures.negated ∙ ap negated c.bound.ensures.value) c.in-Some.ensures.lowest c.in-Some.ensures.sum)
    c.negate-fall.ensures.negated

pub returns-in_default-mul-clause-unfit : goal.returns-in_default-mul-clause-unfit
returns-in_default-mul-clause-unfit c =
    room_mul c.args.position c.args.row.now c.args.point.now c.settle_cause-in_default-mul.result (c.add.ensures.known.0, c.negate-fall.ensures.known) c.in-Some-div.quotient c.half-half.result
    c.settle_cause-in_default-mul.ensures c.in_default-mul.ensures.none c.in-Some-div.ensures.lowest
    (quotient_number c.args.row.now c.args.point.now c.negate-right.result c.negate-fall.result c.in-Some.gap c.in-Some-div.quotient c.add.ensures.known.0 c.bound.ensures.known.bound c.negate-fall.ensures.known
    (c.negate-right.ensures.negated ∙ ap negated c.bound.ensures.value) c.negate-fall.ensures.negated c.in-Some.ensures.lowest c.in-Some.ensures.sum c.in-Some-div.ensures.lowest c.in-Some-div.ensures.some)
    c.half-half.ensures
