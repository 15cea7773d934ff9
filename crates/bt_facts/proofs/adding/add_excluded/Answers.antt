use Rattle.std.proofs.Common.{◌∷◌, [], append-nil, sym}
use Rattle.bt_arena.proofs.Loops.{mapped_all, mapped_more}
use Rattle.bt_facts.specs.Rules.{not_all}
use Rattle.bt_facts.proofs.adding.add_excluded.Goals as goal

pub loop-other-init : goal.loop-other-init
loop-other-init c = sym (append-nil c.args.draft.now)

pub loop-other-preserved : goal.loop-other-preserved
loop-other-preserved c = mapped_more (λ o. not_all (c.args.fact ∷ o ∷ [])) c.args.others.now c.args.draft.now c.loop-other.draft c.add.new.self c.loop-other.other-index _ c.loop-other-test.true c.loop-other.invariant c.in_ok-add.ensures

pub returns : goal.returns
returns c = mapped_all (λ o. not_all (c.args.fact ∷ o ∷ [])) c.args.others.now c.args.draft.now c.loop-other.draft c.loop-other.other-index c.loop-other-test.false c.loop-other.invariant
