use Rattle.std.proofs.Common.{◌≡◌, ◌++◌, ◌∷◌, [], map, OnOk, ◌∙◌, ap, subst}
use Rattle.std.specs.List.{flat_map, range_with_len}
use Rattle.bt_facts.specs.declared.fact.Fact.TheVariants.{Stops}
use Rattle.bt_demands.specs.Pinning.{stop_rules, apart_rules, unpinned_rules}
use Rattle.bt_facts.specs.Rules.{rule, some_of, not_all}
use Rattle.bt_facts.specs.Spots.{border_of}
use Rattle.bt_demands.specs.inner.Parts as parts
use Rattle.bt_facts.proofs.Drawn.{four_in_turn}
use Rattle.bt_demands.proofs.siding.add_output_side.Goals as goal

pub returns : goal.returns
returns c =
    let r = c.args.request.now in
    let o = c.args.output in
    let border = c.args.border.now in
    let stops : c.add.new.self ≡ c.args.draft.now ++ some_of (map (λ x. Stops x o) (border_of r.rect)) ∷ [] =
    c.in_ok-add.ensures ∙ ap (λ facts. c.args.draft.now ++ rule [] facts ∷ []) (c.deref.ensures.value ∙ c.in_ok-facts.ensures ∙ ap (map (λ x. Stops x o)) c.requires.border) in
    let there : c.add_stops.new.draft ≡ c.add.new.self ++ flat_map (stop_rules r c.args.dir o) (border_of r.rect) =
    c.in_ok-add_stops.ensures ∙ ap (λ l. c.add.new.self ++ l)
    (ap (λ rect. flat_map (parts.stop_part_rules rect c.args.dir o c.args.classes.now) border) c.rect.ensures.rect
    ∙ ap (λ k. flat_map (parts.stop_part_rules r.rect c.args.dir o k) border) c.requires.classes
    ∙ ap (flat_map (stop_rules r c.args.dir o)) c.requires.border) in
    let apart : c.add_all_apart.new.draft ≡ c.add_stops.new.draft ++ flat_map (apart_rules r.rect o) (range_with_len 0 o) =
    c.in_ok-add_all_apart.ensures
    ∙ ap (λ b. c.add_stops.new.draft ++ flat_map (λ u. map (λ x. not_all (Stops x o ∷ Stops x u ∷ [])) b) (range_with_len 0 o)) c.requires.border in
    let all = four_in_turn c.args.draft.now c.add.new.self c.add_stops.new.draft c.add_all_apart.new.draft
    (c.add_all_apart.new.draft ++ flat_map (unpinned_rules o) c.demands.result.now)
    (some_of (map (λ x. Stops x o) (border_of r.rect)) ∷ []) (flat_map (stop_rules r c.args.dir o) (border_of r.rect))
    (flat_map (apart_rules r.rect o) (range_with_len 0 o)) (flat_map (unpinned_rules o) r.demands)
    stops there apart (ap (λ l. c.add_all_apart.new.draft ++ flat_map (unpinned_rules o) l) c.demands.ensures) in
    subst (λ l. OnOk c.add_all_unpinned.result (c.add_all_unpinned.new.draft ≡ l)) all c.add_all_unpinned.ensures
