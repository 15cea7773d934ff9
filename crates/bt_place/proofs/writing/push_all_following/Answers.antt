use Rattle.std.proofs.Common.{append-nil, sym}
use Rattle.bt_place.specs.Within.{IsNumbered}
use Rattle.bt_place.specs.inner.Writing.{following_literal}
use Rattle.bt_arena.proofs.Loops.{taken_more, taken_all}
use Rattle.bt_facts.proofs.Drawn.{all_get}
use Rattle.bt_place.proofs.writing.push_all_following.Goals as goal

pub loop-claim-init : goal.loop-claim-init
loop-claim-init c = sym (append-nil c.args.lits.now.items)

pub push_following-requires-clause-within : goal.push_following-requires-clause-within
push_following-requires-clause-within c = all_get (λ claim. IsNumbered c.args.numbers.now claim.fact) c.args.claims.now c.loop-claim.claim-index _ c.requires.within c.loop-claim-test.true

pub loop-claim-preserved : goal.loop-claim-preserved
loop-claim-preserved c = taken_more (following_literal c.args.numbers.now) c.args.claims.now c.args.lits.now.items c.loop-claim.lits.items c.push_following.new.lits.items c.loop-claim.claim-index _ c.loop-claim-test.true c.loop-claim.invariant c.in_ok-push_following.ensures

pub returns : goal.returns
returns c = taken_all (following_literal c.args.numbers.now) c.args.claims.now c.args.lits.now.items c.loop-claim.lits.items c.loop-claim.claim-index c.loop-claim-test.false c.loop-claim.invariant
