use Rattle.std.proofs.Common.{◌++◌, ◌∷◌, [], map, sym, ◌∙◌, ap}
use Rattle.bt_demands.specs.Classes.{input_classes}
use Rattle.bt_facts.specs.Rules.{not_all}
use Rattle.bt_facts.specs.declared.fact.Fact.TheVariants as fact
use Rattle.bt_facts.proofs.Drawn.{map_of_made}
use Rattle.bt_rules.proofs.contents.add_half_class.Goals as goal

pub returns : goal.returns
returns c =
    let cell = c.args.cell in
    let r = c.args.request.now in
    let facts = c.deref-2.ensures.value ∙ c.in_ok-facts.ensures ∙ ap (map (fact.Carries cell)) (c.deref.ensures.value ∙ c.requires.inputs) in
    c.in_ok-add_excluded.ensures ∙ ap (λ l. c.args.draft.now ++ map (λ o. not_all (fact.HalfOn cell ∷ o ∷ [])) l) facts
    ∙ ap (λ l. c.args.draft.now ++ l) (sym (map_of_made (λ o. not_all (fact.HalfOn cell ∷ o ∷ [])) (fact.Carries cell) (input_classes r)))
