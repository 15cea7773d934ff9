use Rattle.std.proofs.Common.{◌∷◌, [], append-nil, sym}
use Rattle.bt_facts.specs.declared.fact.Fact.TheVariants as fact
use Rattle.bt_facts.specs.Rules.{rule}
use Rattle.bt_arena.proofs.Loops.{mapped_more, mapped_all}
use Rattle.bt_demands.proofs.siding.add_stop_classes.Goals as goal

pub loop-class-init : goal.loop-class-init
loop-class-init c = sym (append-nil c.args.draft.now)

pub loop-class-preserved : goal.loop-class-preserved
loop-class-preserved c = mapped_more (λ k. rule (c.args.stops ∷ []) (fact.Carries c.args.cell k ∷ [])) c.args.classes.now c.args.draft.now c.loop-class.draft c.add.new.self c.loop-class.class-index _ c.loop-class-test.true c.loop-class.invariant (c.in_ok-add.ensures)

pub returns : goal.returns
returns c = mapped_all (λ k. rule (c.args.stops ∷ []) (fact.Carries c.args.cell k ∷ [])) c.args.classes.now c.args.draft.now c.loop-class.draft c.loop-class.class-index c.loop-class-test.false c.loop-class.invariant
