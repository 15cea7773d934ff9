use Rattle.std.proofs.Common.{refl, subst}
use Rattle.std.proofs.lemmas.Bool.{false≢true}
use Rattle.bt_model.specs.Chains.{LinksTo}
use Rattle.bt_model.proofs.PathLemmas.{ahead_first, ahead_more, ahead_closes, ahead_stops, ahead_all}
use Rattle.bt_model.proofs.ringing.ring.Goals as goal

pub loop-steps-init : goal.loop-steps-init
loop-steps-init c = ahead_first c.args.parts.now c.args.i c.requires.within

pub next_link-requires-clause-within : goal.next_link-requires-clause-within
next_link-requires-clause-within c = c.loop-steps.invariant.within

pub returns-in_default : goal.returns-in_default
returns-in_default c = (
  λ t. absurd (false≢true t),
  λ ring. absurd (ahead_stops c.args.parts.now c.args.i c.loop-steps.last c.loop-steps._steps c.loop-steps.invariant c.in_default.ensures.next ring),
)

pub returns-then-next-i : goal.returns-then-next-i
returns-then-next-i c = (
  λ _. ahead_closes c.args.parts.now c.args.i c.loop-steps.last c.loop-steps._steps c.loop-steps.invariant
      (subst (λ k. LinksTo c.args.parts.now c.loop-steps.last k) c.if-next-i.true c.in-Some.ensures.next),
  λ _. refl,
)

pub loop-steps-preserved : goal.loop-steps-preserved
loop-steps-preserved c =
    ahead_more c.args.parts.now c.requires.well_placed c.args.i c.loop-steps.last c.in-Some.next c.loop-steps._steps c.loop-steps.invariant
    c.in-Some.ensures.next c.in-Some.ensures.within c.if-next-i.false

pub returns : goal.returns
returns c = (
  λ t. absurd (false≢true t),
  λ ring. absurd (ahead_all c.args.parts.now c.args.i c.loop-steps.last c.loop-steps._steps c.loop-steps.invariant c.loop-steps-test.false ring),
)
