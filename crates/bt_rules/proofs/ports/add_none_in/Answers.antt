use Rattle.std.proofs.Common.{◌++◌, ◌∷◌, [], ◌∙◌, map, ap}
use Rattle.bt_facts.specs.Facts.{goes_into}
use Rattle.bt_facts.specs.Rules.{not_all}
use Rattle.bt_rules.proofs.ports.add_none_in.Goals as goal

pub returns : goal.returns
returns c =
    let going = c.deref.ensures.value ∙ c.in_ok-going.ensures ∙ ap (λ cell. goes_into c.args.rect cell c.args.stand.dir) c.cell_of-cell.ensures.cell in
    c.in_ok-add_excluded.ensures ∙ ap (λ l. c.args.draft.now ++ map (λ o. not_all (c.args.stand.at ∷ o ∷ [])) l) going
