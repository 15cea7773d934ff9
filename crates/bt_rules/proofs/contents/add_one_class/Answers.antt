use Rattle.std.proofs.Common.{◌≡◌, List, ◌++◌, ◌∷◌, [], map, sym, ◌∙◌, ap}
use Rattle.bt_demands.specs.Classes.{classes_of}
use Rattle.bt_facts.specs.Rules.{some_of, not_all, at_most_one}
use Rattle.bt_facts.specs.declared.fact.Content.TheVariants.{Empty}
use Rattle.bt_facts.specs.declared.fact.Fact.{Fact}
use Rattle.bt_facts.specs.declared.fact.Fact.TheVariants as fact
use Rattle.bt_facts.proofs.Drawn.{map_of_made, three_added}
use Rattle.bt_rules.proofs.contents.add_one_class.Goals as goal

pub returns : goal.returns
returns c =
    let cell = c.args.cell in
    let r = c.args.request.now in
    let d = c.args.draft.now in
    let all : List Fact = map (fact.Carries cell) (classes_of r) in
    let empty = fact.Kind cell Empty in
    let bar = λ (o : Fact). not_all (empty ∷ o ∷ []) in
    let facts : c.in_ok-facts.facts.items ≡ all = c.in_ok-facts.ensures ∙ ap (map (fact.Carries cell)) (c.deref.ensures.value ∙ c.requires.classes) in
    let some = c.deref-3.ensures.value ∙ c.in_ok-extend_from_slice.ensures.items ∙ ap (λ l. c.in_ok-some.some.items ++ l) (c.deref-2.ensures.value ∙ facts) ∙ ap (λ l. l ++ all) c.in_ok-some.ensures.items in
    let one = c.in_ok-add.ensures ∙ ap (λ l. d ++ some_of l ∷ []) some in
    let two = c.in_ok-add_at_most_one.ensures ∙ ap (λ l. c.add.new.self ++ at_most_one l) (c.deref-4.ensures.value ∙ facts) in
    let three = c.in_ok-add_excluded.ensures ∙ ap (λ l. c.add_at_most_one.new.draft ++ map bar l) (c.deref-5.ensures.value ∙ facts)
    ∙ ap (λ l. c.add_at_most_one.new.draft ++ l) (sym (map_of_made bar (fact.Carries cell) (classes_of r))) in
    three_added d c.add.new.self c.add_at_most_one.new.draft c.add_excluded.new.draft (some_of (empty ∷ all) ∷ []) (at_most_one all)
    (map (λ k. not_all (empty ∷ fact.Carries cell k ∷ [])) (classes_of r)) one two three
