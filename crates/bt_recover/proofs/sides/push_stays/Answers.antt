use Rattle.std.proofs.Common.{◌<◌, length, subst, arith}
use Rattle.std.specs.Option.{option_to_list}
use Rattle.bt_recover.specs.Sides.{IsStayOf}
use Rattle.bt_recover.specs.inner.Staying.{end_of}
use Rattle.bt_recover.proofs.SideLemmas.{stays_step}
use Rattle.bt_recover.proofs.sides.push_stays.Goals as goal

pub loop-number-preserved : goal.loop-number-preserved
loop-number-preserved c =
    let lt : c.loop-number.number < length c.args.indices.now = omega (arith, c.loop-number-test.true, c.loop-number.auto.number-end) in
    let stays = option_to_list c.stay_of-stay.result in
    let part = c.part.result.now in
    stays_step c.args.grid.now c.args.kind c.args.indices.now c.loop-number.number c.args.stays.now.items c.loop-number.stays.items c.push_if_any.new.stays.items 0 part stays lt c.loop-number.invariant
    c.part.ensures.value
    (subst (λ parts. IsStayOf parts (end_of c.args.kind c.loop-number.number) part stays) c.parts.ensures.value (subst (λ end. IsStayOf c.parts.result.now end part stays) c.end.ensures c.stay_of-stay.ensures))
    c.in_ok-push_if_any.ensures
