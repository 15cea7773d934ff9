use Rattle.std.proofs.Common.{◌++◌, ◌∷◌, [], ◌∙◌, map, ap}
use Rattle.bt_facts.specs.Facts.{goes_into}
use Rattle.bt_rules.specs.Ports.{carries_into}
use Rattle.bt_facts.specs.Rules.{rule_by}
use Rattle.bt_facts.specs.Spots.{half_at, other_half}
use Rattle.bt_facts.specs.declared.fact.Fact.{Fact}
use Rattle.bt_facts.specs.declared.fact.Fact.TheVariants.{EntersLesser}
use Rattle.bt_facts.proofs.Drawn.{three_added}
use Rattle.bt_rules.proofs.ports.add_one_in.Goals as goal

pub returns : goal.returns
returns c =
    let half = c.args.half in
    let at = c.args.stand.at in
    let dir = c.args.stand.dir in
    let rect = c.args.rect in
    let by = EntersLesser c.args.stand.splitter in
    let here = half_at half dir c.args.stand.cell in
    let there = half_at (other_half half) dir c.args.stand.cell in
    let bar = λ (o : Fact). rule_by half by (at ∷ o ∷ []) [] in
    let other = c.cell_of-other.ensures.cell ∙ ap (λ h. half_at h dir c.args.stand.cell) c.other_half.ensures in
    let going = c.deref.ensures.value ∙ c.in_ok-going.ensures ∙ ap (λ cell. goes_into rect cell dir) c.cell_of-cell.ensures.cell in
    let carrying = c.deref-2.ensures.value ∙ c.in_ok-carrying.ensures ∙ ap (λ cell. carries_into rect cell dir c.args.class) c.cell_of-cell.ensures.cell in
    let beside = c.deref-3.ensures.value ∙ c.in_ok-beside.ensures ∙ ap (λ cell. goes_into rect cell dir) other in
    three_added c.args.draft.now c.add_by.new.self c.add_by-2.new.self c.add_excluded_by.new.draft
    (rule_by half by (at ∷ []) (goes_into rect here dir) ∷ []) (rule_by half by (at ∷ []) (carries_into rect here dir c.args.class) ∷ []) (map bar (goes_into rect there dir))
    (c.in_ok-add_by.ensures ∙ ap (λ l. c.args.draft.now ++ rule_by half by (at ∷ []) l ∷ []) going)
    (c.in_ok-add_by-2.ensures ∙ ap (λ l. c.add_by.new.self ++ rule_by half by (at ∷ []) l ∷ []) carrying)
    (c.in_ok-add_excluded_by.ensures ∙ ap (λ l. c.add_by-2.new.self ++ map bar l) beside)
