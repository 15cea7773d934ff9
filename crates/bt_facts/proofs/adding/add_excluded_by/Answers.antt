use Rattle.std.proofs.Common.{◌∷◌, [], append-nil, sym}
use Rattle.bt_facts.specs.Rules.{rule_by}
use Rattle.bt_arena.proofs.Loops.{mapped_more, mapped_all}
use Rattle.bt_facts.proofs.adding.add_excluded_by.Goals as goal

pub loop-other-init : goal.loop-other-init
loop-other-init c = sym (append-nil c.args.draft.now)

pub loop-other-preserved : goal.loop-other-preserved
loop-other-preserved c = mapped_more (λ o. rule_by c.args.half c.args.by_lesser (c.args.fact ∷ o ∷ []) []) c.args.others.now c.args.draft.now c.loop-other.draft c.add_by.new.self c.loop-other.other-index _ c.loop-other-test.true c.loop-other.invariant (c.in_ok-add_by.ensures)

pub returns : goal.returns
returns c = mapped_all (λ o. rule_by c.args.half c.args.by_lesser (c.args.fact ∷ o ∷ []) []) c.args.others.now c.args.draft.now c.loop-other.draft c.loop-other.other-index c.loop-other-test.false c.loop-other.invariant
