use Rattle.std.proofs.Common.{◌∷◌, [], append-nil, sym}
use Rattle.bt_facts.specs.Facts as told
use Rattle.bt_facts.specs.Rules.{not_all}
use Rattle.bt_arena.proofs.Loops.{mapped_more, mapped_all}
use Rattle.bt_demands.proofs.pinning.add_not_turned.Goals as goal

pub loop-other-init : goal.loop-other-init
loop-other-init c = sym (append-nil c.args.draft.now)

pub loop-other-preserved : goal.loop-other-preserved
loop-other-preserved c = mapped_more (λ other. not_all (told.holds c.args.cell c.args.shape other ∷ [])) c.args.others.now c.args.draft.now c.loop-other.draft c.add.new.self c.loop-other.other-index _ c.loop-other-test.true c.loop-other.invariant (c.in_ok-add.ensures)

pub returns : goal.returns
returns c = mapped_all (λ other. not_all (told.holds c.args.cell c.args.shape other ∷ [])) c.args.others.now c.args.draft.now c.loop-other.draft c.loop-other.other-index c.loop-other-test.false c.loop-other.invariant
