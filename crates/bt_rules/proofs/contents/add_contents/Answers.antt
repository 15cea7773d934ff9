use Rattle.std.proofs.Common.{◌++◌, ◌∙◌, ap}
use Rattle.bt_facts.specs.Rules.{exactly_one}
use Rattle.bt_rules.proofs.contents.add_contents.Goals as goal

pub returns : goal.returns
returns c = c.in_ok-add_exactly_one.ensures ∙ ap (λ l. c.args.draft.now ++ exactly_one l) (c.deref.ensures.value ∙ c.in_ok-facts.ensures)
