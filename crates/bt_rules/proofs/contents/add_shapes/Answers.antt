use Rattle.std.proofs.Common.{◌≡◌, ◌++◌, ◌∙◌, ap}
use Rattle.bt_rules.specs.Contents.{half_kinds, belt_kinds}
use Rattle.bt_facts.specs.Rules.{equals_one}
use Rattle.bt_facts.specs.declared.fact.Fact.TheVariants as fact
use Rattle.bt_facts.proofs.Drawn.{two_added}
use Rattle.bt_rules.proofs.contents.add_shapes.Goals as goal

pub returns : goal.returns
returns c =
    let cell = c.args.cell in
    let halves : c.deref.result.now ≡ half_kinds cell = c.deref.ensures.value ∙ c.in_ok-push_turned.ensures ∙ ap (λ l. l ++ half_kinds cell) c.new-facts.ensures.items in
    let one = c.in_ok-add_equals_one.ensures ∙ ap (λ l. c.args.draft.now ++ equals_one (fact.HalfOn cell) l) halves in
    let two = c.in_ok-add_equals_one-2.ensures ∙ ap (λ l. c.add_equals_one.new.draft ++ equals_one (fact.BeltOn cell) l) c.turned.ensures in
    two_added c.args.draft.now c.add_equals_one.new.draft c.add_equals_one-2.new.draft (equals_one (fact.HalfOn cell) (half_kinds cell)) (equals_one (fact.BeltOn cell) (belt_kinds cell)) one two
