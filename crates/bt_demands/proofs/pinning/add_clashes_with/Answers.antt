use Rattle.std.proofs.Common.{◌++◌, ◌∷◌, [], cond, append-nil, sym, ◌∙◌, ap}
use Rattle.bt_demands.specs.Pinning as pinning
use Rattle.bt_facts.specs.Rules.{some_of}
use Rattle.bt_arena.proofs.Loops.{taken_more, taken_all}
use Rattle.bt_facts.proofs.Drawn.{made_flat}
use Rattle.bt_demands.proofs.pinning.add_clashes_with.Goals as goal

pub loop-other-init : goal.loop-other-init
loop-other-init c = sym (append-nil c.args.draft.now)

pub loop-other-preserved : goal.loop-other-preserved
loop-other-preserved c = taken_more (λ o. cond (pinning.clashes c.args.demand o) (some_of [] ∷ []) []) c.args.others.now c.args.draft.now c.loop-other.draft c.add_clash.new.draft c.loop-other.other-index _ c.loop-other-test.true c.loop-other.invariant (c.in_ok-add_clash.ensures)

pub returns : goal.returns
returns c = taken_all (λ o. cond (pinning.clashes c.args.demand o) (some_of [] ∷ []) []) c.args.others.now c.args.draft.now c.loop-other.draft c.loop-other.other-index c.loop-other-test.false c.loop-other.invariant ∙ ap (λ l. c.args.draft.now ++ l) (sym (made_flat (λ o. some_of []) (pinning.clashes c.args.demand) c.args.others.now))
