use Rattle.bt_gen.proofs.WishReadings.{leads_on, no_place, last_name}
use Rattle.bt_gen.proofs.wish.Wish.named.Goals as goal

pub returns-in_err-wish : goal.returns-in_err-wish
returns-in_err-wish c =
    rw c.from_residual.ensures
    (no_place c.args.word.now c.loop-name.rest.now c.in-Some.name.now c.in-Some.behind.now c.loop-name.wish c.loop-name.invariant c.in-Some.ensures.some c.in_err-wish.ensures)

pub loop-name-preserved : goal.loop-name-preserved
loop-name-preserved c =
    leads_on c.args.word.now c.loop-name.rest.now c.in-Some.name.now c.in-Some.behind.now c.loop-name.wish c.in_ok-wish.wish c.loop-name.invariant c.in-Some.ensures.some
    c.in_ok-wish.ensures

pub returns : goal.returns
returns c = last_name c.args.word.now c.loop-name.rest.now c.loop-name.wish c.with_named-2.result c.loop-name.invariant c.in_default.ensures.none c.with_named-2.ensures
