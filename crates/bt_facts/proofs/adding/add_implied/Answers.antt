use Rattle.std.proofs.Common.{◌∷◌, [], append-nil, sym}
use Rattle.bt_arena.proofs.Loops.{mapped_all, mapped_more}
use Rattle.bt_facts.specs.Rules.{rule}
use Rattle.bt_facts.proofs.adding.add_implied.Goals as goal

pub loop-fact-init : goal.loop-fact-init
loop-fact-init c = sym (append-nil c.args.draft.now)

pub loop-fact-preserved : goal.loop-fact-preserved
loop-fact-preserved c = mapped_more (λ f. rule c.args.given.now (f ∷ [])) c.args.facts.now c.args.draft.now c.loop-fact.draft c.add.new.self c.loop-fact.fact-index _ c.loop-fact-test.true c.loop-fact.invariant c.in_ok-add.ensures

pub returns : goal.returns
returns c = mapped_all (λ f. rule c.args.given.now (f ∷ [])) c.args.facts.now c.args.draft.now c.loop-fact.draft c.loop-fact.fact-index c.loop-fact-test.false c.loop-fact.invariant
